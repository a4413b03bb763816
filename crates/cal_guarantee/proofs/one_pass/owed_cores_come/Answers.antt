use Rattle.cal_guarantee.proofs.Served.{owed_come}
use Rattle.cal_guarantee.proofs.one_pass.owed_cores_come.Goals as goal

pub returns : goal.returns
returns c = owed_come
