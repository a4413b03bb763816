use Rattle.cal_policy.proofs.JudgementLemmas.Gone.{gone_is_kept}
use Rattle.cal_policy.proofs.judgement.look_laws.gone_is_kept.Goals as goal

pub returns : goal.returns
returns c = gone_is_kept
