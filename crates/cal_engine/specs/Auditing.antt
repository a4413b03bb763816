-- The audit of an input's history, whose passes are given one by one.
use Rattle.std.specs.Prelude.{◌≡◌, ℕ, List, Result, Ok, Err}
use Rattle.cal_machine.specs.Table.{Table}
use Rattle.cal_policy.specs.Policies.{IsAuditBy, IsVerdictBy}
use Rattle.cal_policy.specs.declared.history.entry.PassEntry.{PassEntry}
use Rattle.cal_policy.specs.declared.policy.Policy.{Policy}
use Rattle.cal_policy.specs.declared.verdict.Verdict.{Verdict}
use Rattle.cal_trace.specs.Report.{passes_text, IsReportOf}
use Rattle.cal_input.specs.Answers.{Decided}
use Rattle.cal_input.specs.Recorded.{Run}
use Rattle.cal_input.specs.declared.fault.RunFault.{RunFault}
use Rattle.cal_engine.specs.Outcome.{audit_text}
use Rattle.cal_engine.specs.declared.jobs.auditing.OpenAudit.{OpenAudit}

-- the audit by this policy has come to the end of this history: its auditor was handed it, and it
-- has its lines
pub record HasTaken (policy : Policy) (table : Table) (history : List PassEntry) (audit : OpenAudit)
    : Type 0 where
  pub audits : IsAuditBy policy table history audit.auditor
  pub of : IsReportOf history audit.report
  pub written : audit.text.items ≡ passes_text history

-- there is a run, and the audit has come to the end of its history
abbrev pub HasTakenRun : Policy → OpenAudit → Result Run RunFault → Type 0
HasTakenRun policy audit (Err f) = ⊥
HasTakenRun policy audit (Ok run) = HasTaken policy run.table run.history audit

-- the audit has come to the end of the run's history, or the fault is the first
abbrev pub Takes : Policy → Result OpenAudit RunFault → Result Run RunFault → Type 0
Takes policy (Ok audit) outcome = HasTakenRun policy audit outcome
Takes policy (Err f) outcome = Decided f (outcome ≡ Err f)

-- the verdict on a run by a policy, and the text that the audit writes of it
pub record IsAnswer (policy : Policy) (verdict : Verdict) (text : List ℕ) (run : Run) : Type 0 where
  pub right : IsVerdictBy policy run.table run.history verdict
  pub made : text ≡ audit_text run verdict

-- there is a run, and they are the answer to it
abbrev pub IsAnswerTo : Policy → Verdict → List ℕ → Result Run RunFault → Type 0
IsAnswerTo policy verdict text (Err f) = ⊥
IsAnswerTo policy verdict text (Ok run) = IsAnswer policy verdict text run
