use Rattle.cal_policy.proofs.JudgementLemmas.Settled.{settled_is_no_news}
use Rattle.cal_policy.proofs.judgement.look_laws.settled_is_no_news.Goals as goal

pub returns : goal.returns
returns c = settled_is_no_news
