use Rattle.cal_policy.proofs.HistoryLemmas.OneMore.{last_thread_placement}
use Rattle.cal_policy.proofs.laws.last_thread_is_placed.Goals as goal

pub returns : goal.returns
returns c = last_thread_placement
