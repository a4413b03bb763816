use Rattle.cal_guard.proofs.Steady.{permitted_safe}
use Rattle.cal_guard.proofs.histories.permitted_is_safe.Goals as goal

pub returns : goal.returns
returns c = permitted_safe
