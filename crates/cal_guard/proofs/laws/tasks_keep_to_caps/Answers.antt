use Rattle.cal_guard.proofs.Emptying.{lowered_next}
use Rattle.cal_guard.proofs.laws.tasks_keep_to_caps.Goals as goal

pub returns : goal.returns
returns c = lowered_next
