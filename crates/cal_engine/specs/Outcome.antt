-- What an engine answers and writes, against what its input asks for.
use Rattle.std.specs.Prelude.{◌++◌, ℕ, List, [], ◌∷◌, codes, decimal, Option, Result, Ok, Err}
use Rattle.std.specs.Io.KnownBytes.{Appends}
use Rattle.std.specs.List.{concat}
use Rattle.cal_policy.specs.Policies.{IsVerdictBy}
use Rattle.cal_policy.specs.declared.policy.Policy.{Policy}
use Rattle.cal_policy.specs.declared.verdict.Verdict.{Verdict}
use Rattle.cal_policy.specs.declared.verdict.Verdict.TheVariants.{Legal, Illegal}
use Rattle.cal_trace.specs.History.Text.{history_text}
use Rattle.cal_trace.specs.Report.{report_text}
use Rattle.cal_input.specs.Answers.{Failed}
use Rattle.cal_input.specs.Recorded.{Run}
use Rattle.cal_input.specs.declared.fault.RunFault.{RunFault}

-- the report of a run
abbrev pub run_report : Run → List ℕ
run_report run = report_text run.table run.history

-- what an outcome asks for, by what is written of a run
abbrev pub text_of : (Run → List ℕ) → Result Run RunFault → Result (List ℕ) RunFault
text_of write (Err f) = Err f
text_of write (Ok run) = Ok (write run)

-- the report that an outcome asks for
abbrev pub report_of : Result Run RunFault → Result (List ℕ) RunFault
report_of outcome = text_of run_report outcome

-- the history that an outcome asks for, as a file
abbrev pub history_of : Result Run RunFault → Result (List ℕ) RunFault
history_of outcome = text_of (λ run. history_text run.history) outcome

-- the line that names the first pass that is not the policy's
abbrev pub illegal_line : ℕ → List ℕ
illegal_line pass = concat (codes "illegal pass " ∷ decimal pass ∷ codes "\n" ∷ [])

-- what the audit of a run writes: the report and a last line, or one line alone
abbrev pub audit_text : Run → Verdict → List ℕ
audit_text run Legal = run_report run ++ codes "legal\n"
audit_text run (Illegal pass) = illegal_line pass

-- there is a run, and its report was written
abbrev pub Reported : Result Run RunFault → Option (List ℕ) → Option (List ℕ) → Type 0
Reported (Err f) old new = ⊥
Reported (Ok run) old new = Appends old new (run_report run)

-- the report of the run was written and nothing else, or the fault says what it must of the input
abbrev pub Reports : {T : Type 0} → Result T RunFault → Result Run RunFault → Option (List ℕ) →
    Option (List ℕ) → Type 0
Reports (Ok _) outcome old new = Reported outcome old new
Reports (Err f) outcome old new = Failed f outcome

-- the verdict is that of the history by the policy, and it was written
pub record IsAudit (policy : Policy) (run : Run) (verdict : Verdict) (old new : Option (List ℕ))
    : Type 0 where
  pub right : IsVerdictBy policy run.table run.history verdict
  pub written : Appends old new (audit_text run verdict)

-- there is a run, and it was audited
abbrev pub Audited : Policy → Verdict → Result Run RunFault → Option (List ℕ) →
    Option (List ℕ) → Type 0
Audited policy verdict (Err f) old new = ⊥
Audited policy verdict (Ok run) old new = IsAudit policy run verdict old new

-- the run was audited, or the fault says what it must of the input
abbrev pub Audits : Policy → Result Verdict RunFault → Result Run RunFault → Option (List ℕ) →
    Option (List ℕ) → Type 0
Audits policy (Ok verdict) outcome old new = Audited policy verdict outcome old new
Audits policy (Err f) outcome old new = Failed f outcome
