use Rattle.cal_assured.proofs.OwedTaken.{owed_taken}
use Rattle.cal_assured.proofs.passes.owed_cores_are_taken.Goals as goal

pub returns : goal.returns
returns c = owed_taken
