use Rattle.cal_assured.proofs.PassLaws.{owed_kept}
use Rattle.cal_assured.proofs.passes.owed_cores_are_kept.Goals as goal

pub returns : goal.returns
returns c = owed_kept
