-- Whole runs: what is written of what one came to.
use Rattle.std.specs.Prelude.{◌≡◌, ◌++◌, ℕ, List, length, Bool, true, false, Option}
use Rattle.std.specs.Prelude.{Result, Ok, Err, IsOk}
use Rattle.std.specs.Io.KnownBytes.{Appends}
use Rattle.cal_policy.specs.declared.history.entry.PassEntry.{PassEntry}
use Rattle.cal_policy.specs.declared.policy.Policy.{Policy}
use Rattle.cal_trace.specs.History.Text.{begun_text, history_text}
use Rattle.cal_trace.specs.Report.Summary.{summary_text}
use Rattle.cal_run.specs.Outcome.{IsRunBy}
use Rattle.cal_run.specs.Parts.{AreFirstPasses}
use Rattle.cal_run.specs.declared.outcome.Outcome.{Outcome}
use Rattle.cal_input.specs.Answers.{Failed}
use Rattle.cal_input.specs.Parts.{RunInput}
use Rattle.cal_input.specs.Recorded.{Run}
use Rattle.cal_input.specs.declared.fault.RunFault.{RunFault}
use Rattle.cal_input.specs.declared.fault.RunFault.TheVariants as fault
use Rattle.cal_engine.specs.Front.{front_of}
use Rattle.cal_engine.specs.Outcome.{run_report}
use Rattle.cal_engine.specs.declared.jobs.front.Front.{Front}
use Rattle.cal_engine.specs.declared.jobs.front.Front.TheVariants as fronts
use Rattle.cal_engine.specs.declared.jobs.running.RunAnswer.{RunAnswer}
use Rattle.cal_engine.specs.declared.jobs.running.RunAnswer.TheVariants.{History, Report, Summary}
use Rattle.cal_engine.specs.declared.jobs.running.RunAnswer.TheVariants.{WithTable}

-- the history that a run on this came to, with its table
abbrev pub run_made : RunInput → Outcome → Run
run_made input outcome = record { table = input.table; history = outcome.history }

-- what is written of what a run came to: its history as a file, its summary, or the report that the
-- audit of its history has
abbrev pub run_text : RunAnswer → RunInput → Outcome → List ℕ
run_text History input outcome = history_text outcome.history
run_text WithTable input outcome = history_text outcome.history
run_text Summary input outcome =
    summary_text (length input.arrivals.passes) (length input.arrivals.turns) outcome.journals
    outcome.left
run_text Report input outcome = run_report (run_made input outcome)

-- what stands before the text of a run: of a history, the table where that is asked for
abbrev pub run_front : RunAnswer → Front
run_front WithTable = fronts.Table
run_front _ = fronts.Nothing

-- all that is written of what a run on this input came to: what stands before its text, and that
abbrev pub written_text : RunAnswer → List ℕ → RunInput → Outcome → List ℕ
written_text answer given input outcome =
    front_of (run_front answer) given ++ run_text answer input outcome

-- a run on this by a policy came to some outcome, and this is the text of that
pub record IsTextOfRun (policy : Policy) (answer : RunAnswer) (input : RunInput) (text : List ℕ)
    : Type 0 where
  pub outcome : Outcome
  pub run : IsRunBy policy input.table input.arrivals outcome
  pub made : text ≡ run_text answer input outcome

-- the input gives a run, and this is the text of one
abbrev pub TellsRun : Policy → RunAnswer → Result RunInput RunFault → List ℕ → Type 0
TellsRun policy answer (Err f) text = ⊥
TellsRun policy answer (Ok input) text = IsTextOfRun policy answer input text

-- a run by a policy on what this text gives came to some outcome, and all that is to be written of
-- that was written
pub record IsWrittenRun (policy : Policy) (answer : RunAnswer) (given : List ℕ) (input : RunInput)
    (old new : Option (List ℕ)) : Type 0 where
  pub outcome : Outcome
  pub run : IsRunBy policy input.table input.arrivals outcome
  pub written : Appends old new (written_text answer given input outcome)

-- the input gives a run, and it was made and written
abbrev pub WritesRun : Policy → RunAnswer → List ℕ → Result RunInput RunFault →
    Option (List ℕ) → Option (List ℕ) → Type 0
WritesRun policy answer given (Err f) old new = ⊥
WritesRun policy answer given (Ok input) old new = IsWrittenRun policy answer given input old new

-- a run by a policy was made and written and nothing else, or the fault says what it must of the
-- input
abbrev pub Runs : {T : Type 0} → Policy → RunAnswer → Result T RunFault → List ℕ →
    Result RunInput RunFault → Option (List ℕ) → Option (List ℕ) → Type 0
Runs policy answer (Ok _) given input old new = WritesRun policy answer given input old new
Runs policy answer (Err f) given input old new = Failed f input

-- what is written of a run pass by pass: its history
abbrev pub is_told : RunAnswer → Bool
is_told History = true
is_told WithTable = true
is_told _ = false

-- a run on this by a policy came to some outcome, and after this its history was written
pub record IsTold (policy : Policy) (head : List ℕ) (input : RunInput) (old new : Option (List ℕ))
    : Type 0 where
  pub outcome : Outcome
  pub run : IsRunBy policy input.table input.arrivals outcome
  pub written : Appends old new (head ++ history_text outcome.history)

-- memory was refused to a run on this while it was told: after this its history was written as far
-- as it was made, all but the last row
pub record IsBegunTold (policy : Policy) (head : List ℕ) (input : RunInput)
    (old new : Option (List ℕ)) : Type 0 where
  pub history : List PassEntry
  pub first : AreFirstPasses policy input.table input.arrivals history
  pub written : Appends old new (head ++ begun_text history)

-- the input gives a run, which was made and told
abbrev pub Tells : Policy → List ℕ → Result RunInput RunFault → Option (List ℕ) →
    Option (List ℕ) → Type 0
Tells policy head (Err f) old new = ⊥
Tells policy head (Ok input) old new = IsTold policy head input old new

-- the input gives a run, of which this much was written where memory was refused in its midst
abbrev pub Begins : Policy → List ℕ → Result RunInput RunFault → Option (List ℕ) →
    Option (List ℕ) → Type 0
Begins policy head (Err f) old new = ⊥
Begins policy head (Ok input) old new = IsBegunTold policy head input old new

-- What a fault of a run in threads says of the input: that there is one for a run where a thread
-- could not be started, since threads start after reading; any other says what it must.
abbrev pub FailedInThreads : {X : Type 0} → RunFault → Result X RunFault → Type 0
FailedInThreads fault.Spawn input = IsOk input
FailedInThreads f input = Failed f input

-- a run by a policy was made in threads and written and nothing else, or the fault says what it must
-- of the input
abbrev pub RunsInThreads : {T : Type 0} → Policy → RunAnswer → Result T RunFault → List ℕ →
    Result RunInput RunFault → Option (List ℕ) → Option (List ℕ) → Type 0
RunsInThreads policy answer (Ok _) given input old new =
    WritesRun policy answer given input old new
RunsInThreads policy answer (Err f) given input old new = FailedInThreads f input
