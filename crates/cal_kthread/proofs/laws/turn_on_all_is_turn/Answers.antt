use Rattle.cal_kthread.proofs.TeamLemmas.Turns.{on-all-is-turn}
use Rattle.cal_kthread.proofs.laws.turn_on_all_is_turn.Goals as goal

pub returns : goal.returns
returns c = on-all-is-turn
