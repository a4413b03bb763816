use Rattle.cal_idle.proofs.Earlier.{nothing_earlier}
use Rattle.cal_idle.proofs.caladan.caladan_does_nothing_earlier.Goals as goal

pub returns : goal.returns
returns c = nothing_earlier
