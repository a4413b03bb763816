use Rattle.cal_guard.proofs.Common.{Free, made_at, safe_at}
use Rattle.cal_laws.specs.Point.{setting_at}
use Rattle.cal_laws.proofs.ExclusionLemmas.Left.{was_left}
use Rattle.cal_guard.proofs.Steady.{safe_point}
use Rattle.cal_guard.proofs.laws.freed_cores_were_left.Goals as goal

pub returns : goal.returns
returns c = λ here is core e. was_left (setting_at here) (made_at here) core (safe_at here (safe_point c.permitted_is_safe.ensures here is) (Free core) e)
