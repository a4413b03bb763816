-- What is written of a run that was decided.
use Rattle.std.specs.Prelude.{◌++◌, ℕ, List, Option, Result, Ok, Err}
use Rattle.std.specs.Io.KnownBytes.{Appends}
use Rattle.cal_input.specs.Answers.{Failed}
use Rattle.cal_input.specs.Recorded.{Run}
use Rattle.cal_input.specs.declared.fault.RunFault.{RunFault}
use Rattle.cal_engine.specs.Front.{front_of}
use Rattle.cal_engine.specs.declared.jobs.front.Front.{Front}
use Rattle.cal_policy.specs.declared.history.entry.PassEntry.{PassEntry}
use Rattle.cal_trace.specs.History.Text.{history_text}

-- what is written of a history
abbrev pub recorded_text : Front → List ℕ → List PassEntry → List ℕ
recorded_text front input history = front_of front input ++ history_text history

-- there is a run, and it was written
abbrev pub Recorded : Front → List ℕ → Result Run RunFault →
    Option (List ℕ) → Option (List ℕ) → Type 0
Recorded front input (Err f) old new = ⊥
Recorded front input (Ok run) old new = Appends old new (recorded_text front input run.history)

-- the run of an input was written and nothing else, or the fault says what it must of the input
abbrev pub Records : {T : Type 0} → Result T RunFault → Front → List ℕ → Result Run RunFault →
    Option (List ℕ) → Option (List ℕ) → Type 0
Records (Ok _) front input outcome old new = Recorded front input outcome old new
Records (Err f) front input outcome old new = Failed f outcome
