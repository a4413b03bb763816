use Rattle.cal_policy.specs.declared.policy.Policy.TheVariants.{Caladan}
use Rattle.cal_policy.proofs.PassLemmas.Legality.{legal_more_by, legal_last, legal_before}
use Rattle.cal_policy.proofs.laws.one_pass_more_is_legal.Goals as goal

pub returns : goal.returns
returns c = λ table history entry.
    (λ legal. (legal_before Caladan table history entry legal, legal_last Caladan table history entry legal), λ both. legal_more_by Caladan table history entry both.0 both.1)
