use Rattle.cal_guard.proofs.Emptying.{revoked_next}
use Rattle.cal_guard.proofs.laws.banned_are_emptied_at_once.Goals as goal

pub returns : goal.returns
returns c = revoked_next
