use Rattle.cal_idle.proofs.AtSight.{same_looks}
use Rattle.cal_idle.proofs.laws.same_looks_are_idle.Goals as goal

pub returns : goal.returns
returns c = same_looks
