use Rattle.cal_idle.proofs.LeftOut.{leave_the_same}
use Rattle.cal_idle.proofs.laws.records_leave_the_same.Goals as goal

pub returns : goal.returns
returns c = leave_the_same
