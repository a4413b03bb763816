use Rattle.cal_paced.proofs.PaceOne.{at-pace-one}
use Rattle.cal_paced.proofs.laws.at_pace_one_is_run.Goals as goal

pub returns : goal.returns
returns c = at-pace-one
