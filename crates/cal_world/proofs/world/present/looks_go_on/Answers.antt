use Rattle.cal_world.proofs.ScheduleLemmas.Kept.{looks_on}
use Rattle.cal_world.proofs.world.present.looks_go_on.Goals as goal

pub returns : goal.returns
returns c = looks_on c.legal_lists_are_safe_by.ensures c.permitted_is_safe.ensures c.action_is_one_more.ensures c.look_is_one_more.ensures
