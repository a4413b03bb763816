use Rattle.cal_laws.proofs.PointLemmas.EndPoints.{ends}
use Rattle.cal_laws.proofs.ends.ends_are_points.Goals as goal

pub returns : goal.returns
returns c = ends
