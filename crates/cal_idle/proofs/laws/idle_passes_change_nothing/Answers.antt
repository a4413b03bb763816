use Rattle.cal_idle.proofs.Going.{by_each, change_nothing}
use Rattle.cal_idle.proofs.laws.idle_passes_change_nothing.Goals as goal

pub returns : goal.returns
returns c = change_nothing (by_each c.caladan_goes_by_what_is_left.ensures c.assured_goes_by_what_is_left.ensures)
