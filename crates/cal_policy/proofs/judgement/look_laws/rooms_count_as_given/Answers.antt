use Rattle.cal_policy.proofs.JudgementLemmas.OneByOne.{rooms_count_as_given}
use Rattle.cal_policy.proofs.judgement.look_laws.rooms_count_as_given.Goals as goal

pub returns : goal.returns
returns c = rooms_count_as_given
