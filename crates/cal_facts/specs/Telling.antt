-- What is written of an input.
use Rattle.std.specs.Prelude.{◌≡◌, ℕ, List, Option, Some, None, Result, Ok, Err}
use Rattle.std.specs.Io.KnownBytes.{Appends}
use Rattle.cal_came.specs.Asked.{IsCountedAs}
use Rattle.cal_came.specs.declared.asked.CountedRequests.{CountedRequests}
use Rattle.cal_came.specs.declared.came.Came.{Came}
use Rattle.cal_input.specs.Parts.{RunInput, run_input_of}
use Rattle.cal_input.specs.declared.fault.RunFault.{RunFault}
use Rattle.cal_machine.specs.Table.{Table}
use Rattle.cal_measure.specs.Clocks.{run_end}
use Rattle.cal_paced.specs.declared.plan.Plan.{Plan}
use Rattle.cal_policy.specs.declared.history.entry.PassEntry.{PassEntry}
use Rattle.cal_policy.specs.declared.policy.Policy.{Policy}
use Rattle.cal_run.specs.declared.outcome.Outcome.{Outcome}
use Rattle.cal_tables.specs.Asked.{asked_run, Subject, of_history, of_run}
use Rattle.cal_tables.specs.Measuring.{FailedFor}
use Rattle.cal_tables.specs.Planned.{FailedBy, IsRunGiven}
use Rattle.cal_tables.specs.declared.asked_fault.AskedFault.{AskedFault}
use Rattle.cal_tables.specs.declared.measuring.MeasuredInput.{MeasuredInput}
use Rattle.cal_tables.specs.declared.planned.PlannedFault.{PlannedFault}
use Rattle.cal_trace.specs.declared.arrivals.Arrivals.{Arrivals}
use Rattle.cal_trace.specs.declared.comings.Comings.{Comings}
use Rattle.cal_facts.specs.RequestRows.{AreClocksTold, requests_text}
use Rattle.cal_facts.specs.Served.{IsRunServed}
use Rattle.cal_facts.specs.WorkTurns.{turns_text}
use Rattle.cal_facts.specs.declared.requests.writing.RunRequests.{RunRequests}

-- a run on these arrivals, by the plan or in lockstep, came to some outcome, and this is the text of
-- its history
pub record IsRunText (plan : Option Plan) (policy : Policy)
    (text : Table → List PassEntry → List ℕ) (input : RunInput) (written : List ℕ) : Type 0 where
  pub given : Arrivals
  pub outcome : Outcome
  pub run : IsRunGiven plan policy input.table input.arrivals given outcome
  pub same : written ≡ text input.table outcome.history

-- this is the text of what is asked for: of the history of a run, or of one that was recorded
abbrev pub IsTextOf : Option Plan → Policy → (Table → List PassEntry → List ℕ) → Subject →
    List ℕ → Type 0
IsTextOf plan policy text (of_run input) written = IsRunText plan policy text input written
IsTextOf plan policy text (of_history run) written = written ≡ text run.table run.history

-- something is asked for, and this is its text
abbrev pub IsAskedText : Option Plan → Policy → (Table → List PassEntry → List ℕ) →
    Result Subject RunFault → List ℕ → Type 0
IsAskedText plan policy text (Err f) written = ⊥
IsAskedText plan policy text (Ok subject) written = IsTextOf plan policy text subject written

-- the text of what is asked for was written, and nothing else
pub record Wrote (IsText : List ℕ → Type 0) (old new : Option (List ℕ)) : Type 0 where
  pub written : List ℕ
  pub is_text : IsText written
  pub appended : Appends old new written

-- it was, or the fault says what it must of what is asked for
abbrev pub Tells : {T : Type 0} → Option Plan → (Result Subject RunFault → List ℕ → Type 0) →
    Result T PlannedFault → Result Subject RunFault → Option (List ℕ) → Option (List ℕ) → Type 0
Tells plan IsText (Ok _) asked old new = Wrote (IsText asked) old new
Tells plan IsText (Err fault) asked old new = FailedBy plan fault asked

abbrev pub came_if : Option Comings → List Came → Option (List Came)
came_if None came = None
came_if (Some comings) came = Some came

-- when requests came that were counted by a file of comings; nothing where there was none
abbrev pub came_told : CountedRequests → Option (List Came)
came_told told = came_if told.comings told.counted.came

-- a run on these arrivals came to some outcome, and this is the text of its requests, which came as is
-- asked for
pub record IsRequestsText (asked : MeasuredInput) (input : RunInput) (written : List ℕ) :
    Type 0 where
  pub told : CountedRequests
  pub counted : IsCountedAs asked.counting input.table input.arrivals told
  pub given : Arrivals
  pub outcome : Outcome
  pub run : IsRunGiven asked.plan asked.policy input.table input.arrivals given outcome
  pub same : written ≡ requests_text input.table given (came_told told) outcome.journals

-- there are arrivals, and this is the text of the requests of a run on them
abbrev pub IsAskedRequests : MeasuredInput → Result RunInput RunFault → List ℕ → Type 0
IsAskedRequests asked (Err f) written = ⊥
IsAskedRequests asked (Ok input) written = IsRequestsText asked input written

-- it was written and nothing else, or the fault says what it must of what is asked for
abbrev pub TellsRequests : {T : Type 0} → MeasuredInput → Result T AskedFault →
    Option (List ℕ) → Option (List ℕ) → Type 0
TellsRequests asked (Ok _) old new =
    Wrote (IsAskedRequests asked (run_input_of asked.bytes.now)) old new
TellsRequests asked (Err fault) old new =
    FailedFor asked fault (asked_run (run_input_of asked.bytes.now))

-- a run of which the requests are told is one on these arrivals as it is asked for
pub record IsRunOn (asked : MeasuredInput) (table : Table) (arrivals : Arrivals)
    (run : RunRequests) : Type 0 where
  pub config : run.config ≡ table
  pub told : CountedRequests
  pub counted : IsCountedAs asked.counting table arrivals told
  pub came : AreClocksTold (came_told told) run.came
  pub served : IsRunServed asked.plan asked.policy table arrivals run.arrivals run.served

abbrev pub IsAskedRun : MeasuredInput → Result RunInput RunFault → RunRequests → Type 0
IsAskedRun asked (Err f) run = ⊥
IsAskedRun asked (Ok input) run = IsRunOn asked input.table input.arrivals run

-- a run on these arrivals, by the plan or in lockstep, came to some outcome, and this is the text of
-- the turns at work of its threads
pub record IsTurnsText (plan : Option Plan) (policy : Policy) (input : RunInput)
    (written : List ℕ) : Type 0 where
  pub given : Arrivals
  pub outcome : Outcome
  pub run : IsRunGiven plan policy input.table input.arrivals given outcome
  pub same : written ≡ turns_text input.table (run_end given) outcome.journals outcome.left

-- there are arrivals, and this is the text of the turns at work of a run on them
abbrev pub IsAskedTurns : Option Plan → Policy → Result RunInput RunFault → List ℕ → Type 0
IsAskedTurns plan policy (Err f) written = ⊥
IsAskedTurns plan policy (Ok input) written = IsTurnsText plan policy input written

-- it was written and nothing else, or the fault says what it must of what is asked for
abbrev pub TellsTurns : {T : Type 0} → Option Plan → Policy → Result T PlannedFault →
    Result RunInput RunFault → Option (List ℕ) → Option (List ℕ) → Type 0
TellsTurns plan policy (Ok _) input old new = Wrote (IsAskedTurns plan policy input) old new
TellsTurns plan policy (Err fault) input old new = FailedBy plan fault (asked_run input)
