use Rattle.cal_idle.proofs.CaladanPass.{by_what_is_left}
use Rattle.cal_idle.proofs.caladan.caladan_goes_by_what_is_left.Goals as goal

pub returns : goal.returns
returns c = by_what_is_left
