use Rattle.cal_kthread.proofs.EndLemmas.Account.{accounted}
use Rattle.cal_kthread.proofs.laws.drained_is_accounted.Goals as goal

pub returns : goal.returns
returns c = accounted
