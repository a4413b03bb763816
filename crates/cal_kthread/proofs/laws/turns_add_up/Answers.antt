use Rattle.cal_kthread.proofs.TurnLemmas.Turns.{turns-add-up}
use Rattle.cal_kthread.proofs.laws.turns_add_up.Goals as goal

pub returns : goal.returns
returns c = turns-add-up
