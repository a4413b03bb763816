use Rattle.cal_guarantee.proofs.LeftOpen.{left_open}
use Rattle.cal_guarantee.proofs.one_pass.nothing_is_kept_from_everybody.Goals as goal

pub returns : goal.returns
returns c = left_open
