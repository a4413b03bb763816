-- The cores that may give rise to a ban.
use Rattle.std.specs.Prelude.{◌≡◌, ℕ, ◌<◌, Bool, false, List, length, if◌then◌else◌}
use Rattle.cal_machine.specs.declared.core_set.CoreSet.{CoreSet}
use Rattle.cal_machine.specs.Table.{Table}
use Rattle.cal_policy.specs.declared.history.action.Action.{Action}
use Rattle.cal_policy.specs.declared.board.Board.{Board}
use Rattle.cal_policy.specs.Board.Counts.{is_over}
use Rattle.cal_policy.specs.State.{Agrees}

-- no task holds more cores than it is guaranteed
abbrev pub NoneOver : Table → Board → Type 0
NoneOver table b = (x : List Action) → Agrees b x → (t : ℕ) → t < length table.tasks →
    is_over table x t ≡ false

-- where some task may be over those that are taken, else those that are held alone
abbrev pub cores_to_ban : Board → Bool → CoreSet
cores_to_ban b over = if over then b.sets.taken else b.open_cores.alone
