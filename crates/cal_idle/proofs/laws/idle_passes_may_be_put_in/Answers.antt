use Rattle.cal_idle.proofs.Going.{by_each}
use Rattle.cal_idle.proofs.LeftOut.{put_in}
use Rattle.cal_idle.proofs.laws.idle_passes_may_be_put_in.Goals as goal

pub returns : goal.returns
returns c = put_in (by_each c.caladan_goes_by_what_is_left.ensures c.assured_goes_by_what_is_left.ensures)
