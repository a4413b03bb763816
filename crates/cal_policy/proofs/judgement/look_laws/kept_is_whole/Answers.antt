use Rattle.cal_policy.proofs.JudgementLemmas.Settled.{kept_is_whole}
use Rattle.cal_policy.proofs.judgement.look_laws.kept_is_whole.Goals as goal

pub returns : goal.returns
returns c = kept_is_whole
