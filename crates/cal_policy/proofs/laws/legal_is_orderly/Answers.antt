use Rattle.cal_policy.proofs.PassLemmas.LegalOrderly.{legal_orderly}
use Rattle.cal_policy.proofs.laws.legal_is_orderly.Goals as goal

pub returns : goal.returns
returns c = legal_orderly
