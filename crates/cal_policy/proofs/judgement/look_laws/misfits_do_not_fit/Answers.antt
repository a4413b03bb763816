use Rattle.cal_policy.proofs.JudgementLemmas.OneByOne.{misfits_do_not_fit}
use Rattle.cal_policy.proofs.judgement.look_laws.misfits_do_not_fit.Goals as goal

pub returns : goal.returns
returns c = misfits_do_not_fit
