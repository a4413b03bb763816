use Rattle.cal_guarantee.proofs.WaitsLast.{waits_to_turn}
use Rattle.cal_guarantee.proofs.one_pass.waits_last_to_the_turn.Goals as goal

pub returns : goal.returns
returns c = waits_to_turn
