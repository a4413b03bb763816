use Rattle.cal_guarantee.proofs.WaitsLast.{short_lasts}
use Rattle.cal_guarantee.proofs.one_pass.short_lasts_to_the_turn.Goals as goal

pub returns : goal.returns
returns c = short_lasts
