use Rattle.std.proofs.Common.{◌∙◌}
use Rattle.cal_policy.proofs.PassLemmas.Branches.{when_true, when_false}
use Rattle.cal_policy.proofs.pass.Pass.best_effort_due.Goals as goal

pub returns-then-is_latency_critical-clause-due : goal.returns-then-is_latency_critical-clause-due
returns-then-is_latency_critical-clause-due c = λ h acts st. when_true _ _ _ c.if-is_latency_critical.ensures

pub returns-else-is_latency_critical-clause-due : goal.returns-else-is_latency_critical-clause-due
returns-else-is_latency_critical-clause-due c = λ h acts st. c.grant_due.ensures.due h acts st ∙ when_false _ _ _ c.if-is_latency_critical.ensures
