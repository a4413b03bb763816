use Rattle.cal_guarantee.proofs.Served.{few_cores}
use Rattle.cal_guarantee.proofs.one_pass.few_cores_are_kept.Goals as goal

pub returns : goal.returns
returns c = few_cores
