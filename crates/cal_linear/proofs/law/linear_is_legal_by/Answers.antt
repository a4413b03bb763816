use Rattle.cal_linear.proofs.Watching.{linear_on}
use Rattle.cal_linear.proofs.law.linear_is_legal_by.Goals as goal

pub returns : goal.returns
returns c = linear_on
