use Rattle.cal_guarantee.proofs.LongRuns.{whole_bound_reached}
use Rattle.cal_guarantee.proofs.guarantee.the_whole_bound_is_reached.Goals as goal

pub returns : goal.returns
returns c = whole_bound_reached
