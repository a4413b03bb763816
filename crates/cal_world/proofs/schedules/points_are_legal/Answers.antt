use Rattle.cal_policy.specs.declared.policy.Policy.TheVariants.{Caladan}
use Rattle.cal_world.proofs.schedules.points_are_legal.Goals as goal

pub returns : goal.returns
returns c = c.points_are_legal_by.ensures Caladan
