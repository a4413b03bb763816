use Rattle.cal_policy.proofs.HistoryLemmas.OneMore.{kept_push}
use Rattle.cal_policy.proofs.laws.look_is_one_more.Goals as goal

pub returns : goal.returns
returns c = kept_push
