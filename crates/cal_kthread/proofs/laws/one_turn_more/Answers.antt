use Rattle.cal_kthread.proofs.TurnLemmas.Turns.{one-turn-more}
use Rattle.cal_kthread.proofs.laws.one_turn_more.Goals as goal

pub returns : goal.returns
returns c = one-turn-more
