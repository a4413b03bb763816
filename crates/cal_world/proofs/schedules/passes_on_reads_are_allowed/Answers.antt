use Rattle.cal_policy.specs.declared.policy.Policy.TheVariants.{Caladan}
use Rattle.cal_world.proofs.schedules.passes_on_reads_are_allowed.Goals as goal

pub returns : goal.returns
returns c = c.passes_on_reads_are_allowed_by.ensures Caladan
