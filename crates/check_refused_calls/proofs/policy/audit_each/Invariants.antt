use Rattle.cal_policy.specs.Auditor.{IsAuditorOf}
use Rattle.check_refused_calls.proofs.policy.audit_each.Given as goal

abbrev pub invariant-loop-entry : goal.invariant-loop-entry
invariant-loop-entry l = IsAuditorOf l.config l.auditor
