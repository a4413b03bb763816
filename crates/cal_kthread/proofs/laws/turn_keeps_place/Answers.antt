use Rattle.cal_kthread.proofs.TeamLemmas.Turns.{keeps-place}
use Rattle.cal_kthread.proofs.laws.turn_keeps_place.Goals as goal

pub returns : goal.returns
returns c = keeps-place
