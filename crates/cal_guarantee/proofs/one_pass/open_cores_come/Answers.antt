use Rattle.cal_guarantee.proofs.Served.{open_come}
use Rattle.cal_guarantee.proofs.one_pass.open_cores_come.Goals as goal

pub returns : goal.returns
returns c = open_come
