-- The choice of a core among those of a set.
use Rattle.std.specs.Prelude.{ℕ, ◌&&◌, Bool, List, Option, None, if◌then◌else◌}
use Rattle.cal_machine.specs.Machine.{sibling_of}
use Rattle.cal_machine.specs.Table.{Table}
use Rattle.cal_machine.specs.declared.core_set.CoreSet.{CoreSet}
use Rattle.cal_machine.specs.CoreSet.{has}
use Rattle.cal_policy.specs.declared.history.action.Action.{Action}
use Rattle.cal_policy.specs.declared.history.core_class.CoreClass.{CoreClass}
use Rattle.cal_policy.specs.History.{holder_of, last_thread}
use Rattle.cal_policy.specs.Board.Counts.{is_held_for}
use Rattle.cal_policy.specs.Setting.{Setting}
use Rattle.cal_policy.specs.Pass.Grants.{class_of, is_thread_for}

-- the class of core c for task t, if the set has the core
abbrev pub class_among : CoreSet → Setting → List Action → ℕ → ℕ → Option CoreClass
class_among cores s acts t c = if has cores c then class_of s acts t c else None

-- the set has core c, and a thread of task t holds the core beside it
abbrev pub is_beside_own : CoreSet → Table → List Action → ℕ → ℕ → Bool
is_beside_own cores table x t c = has cores c && is_held_for table t (holder_of x (sibling_of c))

-- the set has core c, and it was last granted to a thread of task t
abbrev pub was_own_last : CoreSet → Table → List Action → ℕ → ℕ → Bool
was_own_last cores table x t c = has cores c && is_thread_for table t (last_thread x c)
