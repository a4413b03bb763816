use Rattle.cal_policy.proofs.JudgementLemmas.Gone.{gone_frees_its_cores}
use Rattle.cal_policy.proofs.judgement.look_laws.gone_frees_its_cores.Goals as goal

pub returns : goal.returns
returns c = gone_frees_its_cores
