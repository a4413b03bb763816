use Rattle.cal_policy.specs.declared.policy.Policy.TheVariants.{Caladan}
use Rattle.cal_policy.proofs.PassLemmas.Legality.{legal_prefix}
use Rattle.cal_policy.proofs.laws.prefixes_are_legal.Goals as goal

pub returns : goal.returns
returns c = legal_prefix Caladan
