use Rattle.cal_policy.proofs.JudgementLemmas.OneByOne.{taken_input_fits}
use Rattle.cal_policy.proofs.judgement.look_laws.taken_input_fits.Goals as goal

pub returns : goal.returns
returns c = taken_input_fits
