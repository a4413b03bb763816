use Rattle.cal_kthread.proofs.TeamLemmas.Turns.{keeps-team}
use Rattle.cal_kthread.proofs.laws.same_place_keeps_team.Goals as goal

pub returns : goal.returns
returns c = keeps-team
