use Rattle.std.proofs.Common.{arith}
use Rattle.cal_policy.proofs.pass.Pass.none_is_open.Goals as goal

pub returns-in-None : goal.returns-in-None
returns-in-None c = λ yes core lt. c.in-None.ensures.none core (omega arith) lt
