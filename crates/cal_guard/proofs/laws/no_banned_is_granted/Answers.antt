use Rattle.cal_policy.specs.declared.history.action.Action.TheVariants.{Grant}
use Rattle.cal_guard.proofs.Steady.{permitted_at}
use Rattle.cal_guard.proofs.laws.no_banned_is_granted.Goals as goal

pub returns : goal.returns
returns c = λ here is core thread class e. (permitted_at here is (Grant core thread class) e).may.unbanned
