use Rattle.cal_idle.proofs.Leaving.{idle_leave_the_same}
use Rattle.cal_idle.proofs.laws.idle_passes_leave_the_same.Goals as goal

pub returns : goal.returns
returns c = idle_leave_the_same
