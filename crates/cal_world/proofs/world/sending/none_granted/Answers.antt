use Rattle.cal_world.proofs.WorldLemmas.Sent.{granted_first}
use Rattle.cal_world.proofs.world.sending.none_granted.Goals as goal

pub returns : goal.returns
returns c = granted_first
