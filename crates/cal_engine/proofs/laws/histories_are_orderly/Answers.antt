use Rattle.cal_policy.proofs.PolicyLemmas.{orderly_by}
use Rattle.cal_engine.proofs.laws.histories_are_orderly.Goals as goal

pub returns : goal.returns
returns c = orderly_by
