use Rattle.cal_idle.proofs.Earlier.{come_earlier}
use Rattle.cal_idle.proofs.caladan.idle_passes_may_come_earlier.Goals as goal

pub returns : goal.returns
returns c = come_earlier c.caladan_goes_by_what_is_left.ensures c.caladan_does_nothing_earlier.ensures
