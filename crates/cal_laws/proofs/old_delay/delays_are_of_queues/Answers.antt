use Rattle.cal_laws.proofs.OldDelayLemmas.{of_queues}
use Rattle.cal_laws.proofs.old_delay.delays_are_of_queues.Goals as goal

pub returns : goal.returns
returns c = of_queues
