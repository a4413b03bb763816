use Rattle.cal_laws.proofs.ExclusionLemmas.Standing.{runs_at}
use Rattle.cal_guard.proofs.Steady.{safe_point}
use Rattle.cal_guard.proofs.laws.runs_stand_until_left.Goals as goal

pub returns : goal.returns
returns c = λ here is. runs_at c.action_is_one_more.ensures here (safe_point c.permitted_is_safe.ensures here is)
