use Rattle.cal_policy.proofs.JudgementLemmas.OneByOne.{refused_leaves_no_trace}
use Rattle.cal_policy.proofs.judgement.look_laws.refused_leaves_no_trace.Goals as goal

pub returns : goal.returns
returns c = refused_leaves_no_trace
