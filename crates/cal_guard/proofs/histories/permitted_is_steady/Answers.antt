use Rattle.cal_guard.proofs.Steady.{permitted_steady}
use Rattle.cal_guard.proofs.histories.permitted_is_steady.Goals as goal

pub returns : goal.returns
returns c = permitted_steady
