use Rattle.cal_guard.proofs.Steady.{permitted_orderly}
use Rattle.cal_guard.proofs.histories.permitted_is_orderly.Goals as goal

pub returns : goal.returns
returns c = permitted_orderly
