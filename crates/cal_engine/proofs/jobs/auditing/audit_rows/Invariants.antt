use Rattle.std.proofs.Common.{ℕ, List, []}
use Rattle.cal_policy.specs.Auditor.{IsAuditorOf}
use Rattle.cal_trace.specs.History.Reading.{extent_of, HasGiven, IsOpen, rows_left}
use Rattle.cal_engine.proofs.Audited.{IsAuditing}
use Rattle.cal_engine.proofs.jobs.auditing.audit_rows.Given as goal

abbrev pub invariant-loop-audit : goal.invariant-loop-audit
invariant-loop-audit l = record {
  ready : IsOpen l.rows;
  of : IsAuditorOf l.config l.audit.auditor;
  auditing : (trace : List ℕ) → HasGiven (extent_of l.config) trace [] l.initial.rows → IsAuditing l.fn.policy l.config trace l.rows l.audit;
}

abbrev pub decreases-loop-audit : goal.decreases-loop-audit
decreases-loop-audit l = rows_left l.rows
