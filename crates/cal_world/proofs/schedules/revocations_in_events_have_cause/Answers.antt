use Rattle.cal_policy.specs.declared.policy.Policy.TheVariants.{Caladan}
use Rattle.cal_world.proofs.schedules.revocations_in_events_have_cause.Goals as goal

pub returns : goal.returns
returns c = c.revocations_in_events_have_cause_by.ensures Caladan
