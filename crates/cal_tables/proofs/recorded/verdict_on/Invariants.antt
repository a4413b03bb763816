use Rattle.cal_tables.proofs.Common.{take, IsAuditBy}
use Rattle.cal_policy.specs.Auditor.{IsAuditorOf}
use Rattle.cal_tables.proofs.recorded.verdict_on.Given as goal

abbrev pub invariant-loop-entry : goal.invariant-loop-entry
invariant-loop-entry l = record {
  audits : IsAuditBy l.fn.policy l.config (take l.entry-index l.history) l.auditor;
  of : IsAuditorOf l.config l.auditor;
}
