use Rattle.cal_policy.proofs.PassLemmas.LegalOrderly.{legal_steady}
use Rattle.cal_policy.proofs.laws.legal_is_steady.Goals as goal

pub returns : goal.returns
returns c = legal_steady
