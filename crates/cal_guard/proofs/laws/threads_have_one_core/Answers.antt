use Rattle.cal_laws.proofs.ExclusionLemmas.Excluded.{excludes_at}
use Rattle.cal_guard.proofs.Steady.{safe_point}
use Rattle.cal_guard.proofs.laws.threads_have_one_core.Goals as goal

pub returns : goal.returns
returns c = λ here is. (excludes_at c.action_is_one_more.ensures c.last_thread_is_placed.ensures here (safe_point c.permitted_is_safe.ensures here is)).one
