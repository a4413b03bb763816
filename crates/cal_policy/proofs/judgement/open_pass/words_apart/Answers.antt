use Rattle.cal_policy.proofs.JudgementLemmas.Words.{same_words}
use Rattle.cal_policy.proofs.judgement.open_pass.words_apart.Goals as goal

pub returns : goal.returns
returns c = same_words c.args.a.now c.args.b.now
