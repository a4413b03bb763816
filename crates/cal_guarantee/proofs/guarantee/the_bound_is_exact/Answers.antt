use Rattle.cal_guarantee.proofs.LongRuns.{bound_exact}
use Rattle.cal_guarantee.proofs.guarantee.the_bound_is_exact.Goals as goal

pub returns : goal.returns
returns c = bound_exact
