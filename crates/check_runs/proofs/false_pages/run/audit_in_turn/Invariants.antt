use Rattle.cal_policy.specs.Auditor.{IsAuditorOf}
use Rattle.check_runs.proofs.false_pages.run.audit_in_turn.Given as goal

abbrev pub invariant-loop-entry : goal.invariant-loop-entry
invariant-loop-entry l = IsAuditorOf l.config l.auditor
