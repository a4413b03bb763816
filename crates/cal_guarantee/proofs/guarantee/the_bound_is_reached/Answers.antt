use Rattle.cal_guarantee.proofs.LongRuns.{bound_reached}
use Rattle.cal_guarantee.proofs.guarantee.the_bound_is_reached.Goals as goal

pub returns : goal.returns
returns c = bound_reached
