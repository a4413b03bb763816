use Rattle.cal_world.proofs.ScheduleLemmas.Safety.{legal_is_safe}
use Rattle.cal_world.proofs.schedules.legal_lists_are_safe_by.Goals as goal

pub returns : goal.returns
returns c = legal_is_safe c.each_policy_is_permitted.ensures
