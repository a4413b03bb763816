use Rattle.cal_guard.proofs.Emptying.{apart_at}
use Rattle.cal_guard.proofs.laws.no_pair_is_banned.Goals as goal

pub returns : goal.returns
returns c = apart_at
