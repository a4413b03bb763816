use Rattle.cal_idle.proofs.Going.{by_each}
use Rattle.cal_idle.proofs.LeftOut.{are_legal}
use Rattle.cal_idle.proofs.laws.records_are_legal.Goals as goal

pub returns : goal.returns
returns c = are_legal (by_each c.caladan_goes_by_what_is_left.ensures c.assured_goes_by_what_is_left.ensures)
