use Rattle.cal_policy.proofs.JudgementLemmas.OneByOne.{others_count_as_given}
use Rattle.cal_policy.proofs.judgement.look_laws.others_count_as_given.Goals as goal

pub returns : goal.returns
returns c = others_count_as_given
