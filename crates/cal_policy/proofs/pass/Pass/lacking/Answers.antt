use Rattle.cal_policy.proofs.Common.{arith}
use Rattle.cal_policy.proofs.pass.Pass.lacking.Goals as goal

pub returns : goal.returns
returns c = λ h acts st. c.lacking_to.ensures.all h acts st (omega (arith, c.lacking_to.ensures.few))
