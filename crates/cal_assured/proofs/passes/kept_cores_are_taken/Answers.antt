use Rattle.cal_assured.proofs.KeptTaken.{kept_taken}
use Rattle.cal_assured.proofs.passes.kept_cores_are_taken.Goals as goal

pub returns : goal.returns
returns c = kept_taken
