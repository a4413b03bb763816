use Rattle.cal_policy.proofs.JudgementLemmas.OpenPass.{open_pass_fits}
use Rattle.cal_policy.proofs.judgement.open_pass.open_pass_fits.Goals as goal

pub returns : goal.returns
returns c = open_pass_fits
