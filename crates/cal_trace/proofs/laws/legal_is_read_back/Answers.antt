use Rattle.cal_policy.specs.declared.policy.Policy.TheVariants.{Caladan}
use Rattle.cal_trace.proofs.laws.legal_is_read_back.Goals as goal

pub returns : goal.returns
returns c = c.legal_is_read_back_by.ensures Caladan
