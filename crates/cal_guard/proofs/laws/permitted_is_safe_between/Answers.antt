use Rattle.cal_guard.proofs.Between.{between}
use Rattle.cal_guard.proofs.laws.permitted_is_safe_between.Goals as goal

pub returns : goal.returns
returns c = between c.permitted_is_safe.ensures c.permitted_is_steady.ensures c.action_is_one_more.ensures c.last_thread_is_placed.ensures
