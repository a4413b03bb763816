-- Which cores each task had last.
use Rattle.std.specs.Prelude.{◌≡◌, ◌==◌, ℕ, ◌<◌, Bool, false, Option, Some, None, slice_get, option_map, if◌then◌else◌}
use Rattle.cal_machine.specs.CoreSet.{has}
use Rattle.cal_machine.specs.Table.{Table}
use Rattle.cal_machine.specs.declared.core_set.CoreSet.{CoreSet}
use Rattle.cal_machine.specs.declared.task_table.TheConstants.{MOST_TASKS}
use Rattle.cal_policy.specs.declared.board.holders.Holding.{Holding}
use Rattle.cal_policy.specs.declared.board.holders.Placement as placements
use Rattle.cal_policy.specs.declared.board.recent_cores.RecentCores.{RecentCores}
use Rattle.cal_policy.specs.declared.history.action.Action.{Action}
use Rattle.cal_policy.specs.declared.history.action.Action.TheVariants.{Free, Unban, Ban}
use Rattle.cal_policy.specs.declared.history.action.Action.TheVariants.{Revoke, Cap, Grant}
use Rattle.cal_policy.specs.Board.{granted_in}
use Rattle.cal_policy.specs.Pass.Grants.{is_thread_for}

-- the thread that the last grant of core c went to, as it is kept
abbrev pub last_thread_in : Holding → ℕ → Option ℕ
last_thread_in h c = option_map (λ (p : placements.Placement). p.thread) (granted_in h c)

-- the thread that the last grant of core c went to, with one more action
abbrev pub last_thread_with : Action → (ℕ → Option ℕ) → ℕ → Option ℕ
last_thread_with (Grant core thread class) last c = if c == core then Some thread else last c
last_thread_with (Free core) last c = last c
last_thread_with (Revoke core cause) last c = last c
last_thread_with (Unban core) last c = last c
last_thread_with (Ban core thread started) last c = last c
last_thread_with (Cap task cap) last c = last c

-- whether core c is in this set, if there is one
abbrev pub is_in_set : Option CoreSet → ℕ → Bool
is_in_set None c = false
is_in_set (Some set) c = has set c

-- whether core c is in the set of task t
abbrev pub had_by : RecentCores → ℕ → ℕ → Bool
had_by recent t c = is_in_set (slice_get recent.of_task t) c

-- where `last` says which thread the last grant of each core went to, the set of each task has
-- exactly the cores whose last grant went to one of its threads
pub record AreRecent (table : Table) (last : ℕ → Option ℕ) (recent : RecentCores) : Type 0 where
  pub cores : (t : ℕ) → t < MOST_TASKS → (c : ℕ) →
      had_by recent t c ≡ is_thread_for table t (last c)
