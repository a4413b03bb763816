use Rattle.cal_kthread.proofs.TeamLemmas.Turns.{on-keeps-place}
use Rattle.cal_kthread.proofs.laws.turn_on_keeps_place.Goals as goal

pub returns : goal.returns
returns c = on-keeps-place
