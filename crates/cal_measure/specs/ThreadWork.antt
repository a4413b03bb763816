-- What the turns of a kernel thread come to, told while its journal grows. A turn ends with the next
-- one: so of the turns so far each has ended but the last.
use Rattle.std.specs.Prelude.{◌≡◌, ◌≤◌, ℕ, ◌*◌, ◌-◌, ◌^◌, List, length, slice_get, sum, Option}
use Rattle.std.specs.List.{AllZip}
use Rattle.cal_kthread.specs.declared.journal.entry.Entry.{Entry}
use Rattle.cal_kthread.specs.declared.kernel_thread.TheConstants.{MOST_ENTRIES}
use Rattle.cal_policy.specs.History.Lists.{each_of}
use Rattle.cal_measure.specs.Ends.{timed_at, timed_of}
use Rattle.cal_measure.specs.Joined.{joined_below}
use Rattle.cal_measure.specs.Services.{begun_since, clocked, services_of, worked_since}
use Rattle.cal_measure.specs.Turns.{served_since, turns_of}
use Rattle.cal_measure.specs.Work.{stolen_by, suspensions_in, time_worked}
use Rattle.cal_measure.specs.declared.ends.TimedTurn.{TimedTurn}
use Rattle.cal_measure.specs.declared.thread_work.ThreadWork.{ThreadWork}
use Rattle.cal_measure.specs.declared.thread_work.ended.EndedTurns.{EndedTurns}
use Rattle.cal_measure.specs.declared.thread_work.so_far.TurnsSoFar.{TurnsSoFar}
use Rattle.cal_measure.specs.declared.thread_work.totals.ThreadTotals.{ThreadTotals}
use Rattle.cal_measure.specs.declared.turns.Turn.{Turn}
use Rattle.cal_measure.specs.declared.work.TaskWork.{TaskWork}

-- the last of these turns, if there is one
abbrev pub latest_of : List Turn → Option Turn
latest_of turns = slice_get turns (length turns - 1)

-- those before it, each with its end: none of them ends at the run's last clock
abbrev pub ended_of : List Turn → List TimedTurn
ended_of turns = joined_below (timed_at 0 turns) (length turns - 1)

-- this is what these turns came to, which have ended
pub record IsWorkOfEnded (turns : List TimedTurn) (work : EndedTurns) : Type 0 where
  pub begun : work.begun ≡ begun_since turns
  pub so_far : work.so_far ≡ clocked (worked_since turns)
  pub services : work.services.items ≡ services_of turns
  pub worked : work.worked ≡ sum (each_of time_worked turns)
  -- by a clock of 64 bits
  pub few : work.worked ≤ length turns * 2 ^ 64

-- this is what these turns so far came to
pub record AreTurnsSoFar (turns : List Turn) (so_far : TurnsSoFar) : Type 0 where
  pub latest : so_far.latest ≡ latest_of turns
  pub ended : IsWorkOfEnded (ended_of turns) so_far.ended
  pub suspensions : so_far.suspensions ≡ length (suspensions_in turns)

-- this is what the turns of this journal so far came to, which holds no more than a journal can
pub record IsThreadWorkOf (journal : List Entry) (work : ThreadWork) : Type 0 where
  pub short : length journal ≤ MOST_ENTRIES
  pub served : work.served ≡ served_since journal
  pub thefts : work.thefts ≡ length (each_of stolen_by journal)
  pub turns : AreTurnsSoFar (turns_of journal) work.turns

-- this is the work of threads whose turns worked for these times, who stole these requests, and
-- whose requests were suspended at these clocks
pub record IsWorkOf (times stolen stamps : List ℕ) (work : TaskWork) : Type 0 where
  pub worked : work.worked ≡ sum times
  pub thefts : work.thefts ≡ length stolen
  pub suspensions : work.suspensions ≡ length stamps

-- n threads can have done this: a journal holds 2 ^ 20 entries at most, and a turn lasts less than
-- 2 ^ 64 ticks
pub record IsWithin (n : ℕ) (work : TaskWork) : Type 0 where
  pub worked : work.worked ≤ n * 2 ^ 84
  pub thefts : work.thefts ≤ n * 2 ^ 20
  pub suspensions : work.suspensions ≤ n * 2 ^ 20

-- this is what the turns of a whole journal came to, in a run with this last clock
pub record AreTotalsOf (last : ℕ) (journal : List Entry) (totals : ThreadTotals) : Type 0 where
  pub services : totals.services.items ≡ services_of (timed_of last (turns_of journal))
  pub work : IsWorkOf (each_of time_worked (timed_of last (turns_of journal)))
      (each_of stolen_by journal) (suspensions_in (turns_of journal)) totals.work
  pub within : IsWithin 1 totals.work

-- of each thread, in thread order
abbrev pub AreTotalsOfEach : ℕ → List (List Entry) → List ThreadTotals → Type 0
AreTotalsOfEach last journals threads = AllZip (AreTotalsOf last) journals threads
