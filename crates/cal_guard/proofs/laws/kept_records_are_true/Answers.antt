use Rattle.cal_laws.proofs.KeptLemmas.Truth.{true_at}
use Rattle.cal_guard.proofs.Steady.{safe_point}
use Rattle.cal_guard.proofs.laws.kept_records_are_true.Goals as goal

pub returns : goal.returns
returns c = λ here is. true_at c.look_is_one_more.ensures here (safe_point c.permitted_is_safe.ensures here is)
