-- The numbers of a run.
use Rattle.std.specs.Prelude.{◌≡◌, ℕ, List, length, Some, slice_get}
use Rattle.std.specs.List.{AllZip}
use Rattle.cal_came.specs.Counting.{as_given}
use Rattle.cal_came.specs.declared.counted.Counted.{Counted}
use Rattle.cal_kthread.specs.declared.journal.entry.Entry.{Entry}
use Rattle.cal_machine.specs.Table.{Table}
use Rattle.cal_measure.specs.Clocks.{run_end, turns_last}
use Rattle.cal_measure.specs.Cores.{AreCoresOfTasks, AreMachineCores, MakeTheWhole}
use Rattle.cal_measure.specs.Requests.{AreRequestsOf}
use Rattle.cal_measure.specs.ThreadWork.{AreTotalsOfEach, IsThreadWorkOf}
use Rattle.cal_measure.specs.Walk.{IsWalkOf}
use Rattle.cal_measure.specs.declared.requests.TaskRequests.{TaskRequests}
use Rattle.cal_policy.specs.declared.history.entry.PassEntry.{PassEntry}
use Rattle.cal_policy.specs.declared.policy.Policy.{Policy}
use Rattle.cal_run.specs.Outcome.{IsRunBy}
use Rattle.cal_run.specs.declared.outcome.Outcome.{Outcome}
use Rattle.cal_tables.specs.declared.collecting.EndedNumbers.{EndedNumbers}
use Rattle.cal_tables.specs.declared.collecting.OpenNumbers.{OpenNumbers}
use Rattle.cal_tables.specs.declared.measuring.RunNumbers.{RunNumbers}
use Rattle.cal_tables.specs.declared.recorded.HistoryNumbers.{HistoryNumbers}
use Rattle.cal_trace.specs.declared.arrivals.Arrivals.{Arrivals}

-- for each task, in task order, the numbers of its requests, counted so, in this run
pub record AreNumbersOf (table : Table) (arrivals : Arrivals) (counted : Counted)
    (outcome : Outcome) (numbers : List TaskRequests) : Type 0 where
  pub many : length numbers ≡ length table.tasks
  pub each : (t : ℕ) (of_task : TaskRequests) → slice_get numbers t ≡ Some of_task →
      AreRequestsOf table arrivals counted outcome.journals outcome.left t of_task

-- the numbers of the cores in this history: of the tasks', and of the machine's, whose parts make
-- the whole
pub record AreHistoryNumbers (table : Table) (history : List PassEntry)
    (numbers : HistoryNumbers) : Type 0 where
  pub cores : AreCoresOfTasks table history numbers.cores.items
  pub machine : AreMachineCores table history numbers.machine
  pub whole : MakeTheWhole table numbers.machine

-- what is held of a run while it is made, which made these passes and whose threads keep these
-- journals: the walk over the passes, and what the turns of each thread came to
pub record AreNumbersSoFar (history : List PassEntry) (journals : List (List Entry))
    (numbers : OpenNumbers) : Type 0 where
  pub walk : IsWalkOf numbers.config history numbers.walk
  pub threads : AllZip IsThreadWorkOf journals numbers.threads.items

-- what is held of it once it has come to this outcome
pub record AreNumbersAtEnd (arrivals : Arrivals) (outcome : Outcome)
    (ended : EndedNumbers) : Type 0 where
  pub walk : IsWalkOf ended.config outcome.history ended.walk
  pub threads : AreTotalsOfEach (run_end arrivals) outcome.journals ended.run.threads.items
  pub left : outcome.left ≡ ended.run.left

-- the numbers of this run: of requests, counted so, of the tasks' cores, of the machine's, whose parts make the
-- whole, and how long its turns last
pub record AreRunNumbers (table : Table) (arrivals : Arrivals) (counted : Counted)
    (outcome : Outcome) (numbers : RunNumbers) : Type 0 where
  pub requests : AreNumbersOf table arrivals counted outcome numbers.requests.items
  pub cores : AreCoresOfTasks table outcome.history numbers.cores.items
  pub machine : AreMachineCores table outcome.history numbers.machine
  pub whole : MakeTheWhole table numbers.machine
  pub turns : numbers.turns ≡ turns_last arrivals

-- a run by the policy on these arrivals came to some outcome, and these are its numbers, counted so
pub record IsCountedRun (policy : Policy) (table : Table) (arrivals : Arrivals)
    (counted : Counted) (numbers : RunNumbers) : Type 0 where
  pub outcome : Outcome
  pub run : IsRunBy policy table arrivals outcome
  pub are : AreRunNumbers table arrivals counted outcome numbers

-- these are its numbers, where each request counts from the clock of its turn
abbrev pub IsMeasuredRun : Policy → Table → Arrivals → RunNumbers → Type 0
IsMeasuredRun policy table arrivals numbers =
    IsCountedRun policy table arrivals (as_given arrivals) numbers
