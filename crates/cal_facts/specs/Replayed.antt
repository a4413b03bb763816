-- What is written of runs whose passes are a history's.
use Rattle.std.specs.Prelude.{◌≡◌, ℕ, List, Option}
use Rattle.cal_came.specs.Asked.{IsCountedAs}
use Rattle.cal_came.specs.declared.asked.CountedRequests.{CountedRequests}
use Rattle.cal_input.specs.Parts.{RunInput}
use Rattle.cal_kthread.specs.declared.journal.entry.Entry.{Entry}
use Rattle.cal_machine.specs.Table.{Table}
use Rattle.cal_machine.specs.TableTasks.{threads_of_table}
use Rattle.cal_machine.specs.declared.request.Request.{Request}
use Rattle.cal_measure.specs.Clocks.{run_end}
use Rattle.cal_paced.specs.declared.plan.Plan.{Plan}
use Rattle.cal_policy.specs.declared.history.entry.PassEntry.{PassEntry}
use Rattle.cal_tables.specs.Replayed.{IsReplayGiven, IsReplayOf}
use Rattle.cal_tables.specs.declared.measuring.MeasuredInput.{MeasuredInput}
use Rattle.cal_trace.specs.declared.arrivals.Arrivals.{Arrivals}
use Rattle.cal_facts.specs.RequestRows.{AreClocksTold, requests_text}
use Rattle.cal_facts.specs.Served.{AreServed, served_from}
use Rattle.cal_facts.specs.Telling.{came_told}
use Rattle.cal_facts.specs.WorkTurns.{turns_text, works_below}
use Rattle.cal_facts.specs.declared.histories.RunHistory.{RunHistory}
use Rattle.cal_facts.specs.declared.requests.served.ServedRequests.{ServedRequests}
use Rattle.cal_facts.specs.declared.requests.writing.RunRequests.{RunRequests}
use Rattle.cal_facts.specs.declared.turns.work.WorkTurn.{WorkTurn}

-- this is the history of a replay, with its table
abbrev pub IsReplayedHistory : Option Plan → List ℕ → List ℕ → RunHistory → Type 0
IsReplayedHistory plan input rows is = IsReplayOf plan input rows
    (λ run given history journals left.
    (is.config ≡ run.table) × (is.passes.items ≡ history))

-- this is the text of the history of a replay
abbrev pub IsReplayedText : Option Plan → List ℕ → List ℕ →
    (Table → List PassEntry → List ℕ) → List ℕ → Type 0
IsReplayedText plan input rows text written = IsReplayOf plan input rows
    (λ run given history journals left. written ≡ text run.table history)

-- a run on these arrivals made the passes of this history, and these are the turns at work of its
-- threads
pub record AreTurnsOfReplay (plan : Option Plan) (table : Table) (arrivals : Arrivals)
    (history : List PassEntry) (works : List WorkTurn) : Type 0 where
  pub given : Arrivals
  pub journals : List (List Entry)
  pub left : List (List Request)
  pub replay : IsReplayGiven plan table arrivals given history journals left
  pub are : works ≡ works_below (threads_of_table table) (run_end given) journals left

-- this is the text of the turns at work of a replay
abbrev pub IsReplayedTurns : Option Plan → List ℕ → List ℕ → List ℕ → Type 0
IsReplayedTurns plan input rows written = IsReplayOf plan input rows
    (λ run given history journals left.
    written ≡ turns_text run.table (run_end given) journals left)

-- a run on these arrivals, which was given these, made the passes of this history, and these are the
-- requests that its threads served
pub record IsReplayServed (plan : Option Plan) (table : Table) (arrivals given : Arrivals)
    (history : List PassEntry) (served : ServedRequests) : Type 0 where
  pub journals : List (List Entry)
  pub left : List (List Request)
  pub replay : IsReplayGiven plan table arrivals given history journals left
  pub are : AreServed (served_from (run_end given) 0 journals) served

-- the requests of a replay came as is asked for, and of them this holds
pub record CameAs (asked : MeasuredInput) (run : RunInput)
    (Holds : CountedRequests → Type 0) : Type 0 where
  pub told : CountedRequests
  pub counted : IsCountedAs asked.counting run.table run.arrivals told
  pub holds : Holds told

-- these are the requests of a replay, which came as is asked for
abbrev pub IsReplayedRequests : MeasuredInput → List ℕ → RunRequests → Type 0
IsReplayedRequests asked rows is = IsReplayOf asked.plan asked.bytes.now rows
    (λ run given history journals left. CameAs asked run (λ told.
    (is.config ≡ run.table) × (is.arrivals ≡ given) × AreClocksTold (came_told told) is.came
    × AreServed (served_from (run_end given) 0 journals) is.served))

-- this is the text of the requests of a replay, which came as is asked for
abbrev pub IsReplayedRows : MeasuredInput → List ℕ → List ℕ → Type 0
IsReplayedRows asked rows written = IsReplayOf asked.plan asked.bytes.now rows
    (λ run given history journals left. CameAs asked run (λ told.
    written ≡ requests_text run.table given (came_told told) journals))
