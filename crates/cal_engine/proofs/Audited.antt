-- The audit of a history whose passes are given one by one.
use Rattle.cal_engine.proofs.Common.{◌≡◌, ℕ, List, Result, Ok, Err, sym, subst, Table, IsAuditBy, IsVerdictBy, PassEntry, Policy, extent_of, recorded_on, audit_text}
use Rattle.cal_policy.specs.declared.verdict.Verdict.{Verdict}
use Rattle.cal_trace.specs.History.Reading.{HasGiven}
use Rattle.cal_trace.specs.declared.fault.TraceFault.{TraceFault}
use Rattle.cal_trace.specs.declared.history.file.HistoryRows.{HistoryRows}
use Rattle.cal_engine.specs.Auditing.{HasTaken, HasTakenRun, IsAnswerTo}
use Rattle.cal_engine.specs.declared.jobs.auditing.OpenAudit.{OpenAudit}

-- the first passes of a text were given, and the audit has come to their end
pub record IsAuditing (policy : Policy) (table : Table) (trace : List ℕ) (rows : HistoryRows) (audit : OpenAudit) : Type 0 where
  pub given : List PassEntry
  pub has : HasGiven (extent_of table) trace given rows
  pub takes : HasTaken policy table given audit

-- a history that was all given
pub audited : (policy : Policy) (table : Table) (history : Result (List PassEntry) TraceFault) (given : List PassEntry) (audit : OpenAudit) → history ≡ Ok given → HasTaken policy table given audit
    → HasTakenRun policy audit (recorded_on table history)
audited policy table history given audit gives takes = subst (λ (r : Result (List PassEntry) TraceFault). HasTakenRun policy audit (recorded_on table r)) (sym gives) takes

-- the answer to a history to whose end the audit has come
pub answered : (policy : Policy) (table : Table) (history : Result (List PassEntry) TraceFault) (audit : OpenAudit) (verdict : Verdict) (text : List ℕ)
    → ((policy : Policy) (table : Table) (h : List PassEntry) → IsAuditBy policy table h audit.auditor → IsVerdictBy policy table h verdict) → HasTakenRun policy audit (recorded_on table history)
    → ((h : List PassEntry) → HasTaken policy table h audit → IsVerdictBy policy table h verdict → text ≡ audit_text (record { table = table; history = h }) verdict)
    → IsAnswerTo policy verdict text (recorded_on table history)
answered policy table (Err f) audit verdict text right takes made = absurd takes
answered policy table (Ok h) audit verdict text right takes made =
    let is_right = right policy table h takes.audits in
    record { right = is_right; made = made h takes is_right }
