use Rattle.cal_policy.proofs.PassLemmas.LegalOrderly.{legal_made}
use Rattle.cal_policy.proofs.laws.legal_is_sound.Goals as goal

pub returns : goal.returns
returns c = legal_made
