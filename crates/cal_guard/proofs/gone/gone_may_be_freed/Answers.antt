use Rattle.cal_guard.proofs.GoneLemmas.{gone_freed}
use Rattle.cal_guard.proofs.gone.gone_may_be_freed.Goals as goal

pub returns : goal.returns
returns c = gone_freed c.permitted_is_safe_between.ensures c.action_is_one_more.ensures
