use Rattle.cal_policy.specs.declared.policy.Policy.TheVariants.{Caladan}
use Rattle.cal_engine.proofs.laws.with_table_is_read_back.Goals as goal

pub returns : goal.returns
returns c = c.with_table_is_read_back_by.ensures Caladan
