use Rattle.cal_policy.specs.declared.policy.Policy.TheVariants.{Caladan}
use Rattle.cal_linear.proofs.law.linear_is_legal.Goals as goal

pub returns : goal.returns
returns c = c.linear_is_legal_by.ensures Caladan
