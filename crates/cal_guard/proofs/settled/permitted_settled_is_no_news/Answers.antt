use Rattle.cal_guard.proofs.Quiet.{settled_is_no_news}
use Rattle.cal_guard.proofs.settled.permitted_settled_is_no_news.Goals as goal

pub returns : goal.returns
returns c = settled_is_no_news c.permitted_is_orderly.ensures c.kept_records_are_true.ensures c.kept_threads_are_on_core.ensures
