-- Why each cap of a best-effort task is set. (After Caladan's bandwidth controller; the exact rule
-- is Doranjei's own.)
use Rattle.std.specs.Prelude.{◌≡◌, ℕ, ◌+◌, ◌<◌, ◌≤◌, ◌⊎◌, false, List, length, Some}
use Rattle.cal_machine.specs.TableTasks.{limit_of, is_latency_critical}
use Rattle.cal_policy.specs.declared.history.action.Action.{Action}
use Rattle.cal_policy.specs.declared.history.action.Action.TheVariants.{Cap}
use Rattle.cal_policy.specs.Board.Counts.{held_by, cap_of}
use Rattle.cal_policy.specs.Setting.{Setting}
use Rattle.cal_laws.specs.Point.{Point, IsPoint, setting_at, actions_at, next_at}
use Rattle.cal_laws.specs.Cause.{HasMisses}

-- a cut: the figure is over the limit, no candidate has had more misses than the task, and the cap
-- is one below the cores that it holds
pub record IsVictimsCap (s : Setting) (x : List Action) (t cap : ℕ) : Type 0 where
  pub over_limit : s.table.bandwidth_limit < s.input.bandwidth
  pub misses : HasMisses s x t
  pub below_held : cap + 1 ≡ held_by s.table x t

-- a best-effort task whose cap is below its limit
pub record IsCapped (s : Setting) (x : List Action) (t : ℕ) : Type 0 where
  pub own : t < length s.table.tasks
  pub best_effort : is_latency_critical s.table t ≡ false
  pub below_limit : cap_of s.table x t < limit_of s.table t

-- a rise: the figure is not over the limit, no task with a lesser number is capped, and the cap is
-- one above the last one
pub record IsRaisedCap (s : Setting) (x : List Action) (t cap : ℕ) : Type 0 where
  pub within_limit : s.input.bandwidth ≤ s.table.bandwidth_limit
  pub capped : IsCapped s x t
  pub none_lesser : (other : ℕ) → IsCapped s x other → t ≤ other
  pub above_last : cap ≡ cap_of s.table x t + 1

-- each cap that is set is the one or the other
abbrev pub CapsAreDue : Type 0
CapsAreDue = (here : Point) → IsPoint here → (t cap : ℕ) → next_at here ≡ Some (Cap t cap) →
    IsVictimsCap (setting_at here) (actions_at here) t cap
    ⊎ IsRaisedCap (setting_at here) (actions_at here) t cap
