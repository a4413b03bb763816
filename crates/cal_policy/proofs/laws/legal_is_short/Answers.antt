use Rattle.cal_policy.proofs.PassLemmas.Length.{legal_short}
use Rattle.cal_policy.proofs.laws.legal_is_short.Goals as goal

pub returns : goal.returns
returns c = legal_short
