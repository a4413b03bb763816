use Rattle.cal_policy.specs.declared.policy.Policy.TheVariants.{Caladan}
use Rattle.cal_world.proofs.schedules.legal_lists_are_safe.Goals as goal

pub returns : goal.returns
returns c = c.legal_lists_are_safe_by.ensures Caladan
