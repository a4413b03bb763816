use Rattle.cal_policy.proofs.JudgementLemmas.OneByOne.{only_faults_are_refused}
use Rattle.cal_policy.proofs.judgement.look_laws.only_faults_are_refused.Goals as goal

pub returns : goal.returns
returns c = only_faults_are_refused
