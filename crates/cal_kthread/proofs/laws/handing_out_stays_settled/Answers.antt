use Rattle.cal_kthread.proofs.EndLemmas.Account.{stays-settled}
use Rattle.cal_kthread.proofs.laws.handing_out_stays_settled.Goals as goal

pub returns : goal.returns
returns c = stays-settled
