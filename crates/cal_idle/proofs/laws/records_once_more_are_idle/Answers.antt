use Rattle.cal_idle.proofs.AtSight.{once_more}
use Rattle.cal_idle.proofs.laws.records_once_more_are_idle.Goals as goal

pub returns : goal.returns
returns c = once_more
