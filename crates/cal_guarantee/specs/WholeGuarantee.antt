-- A guarantee is given, whole: a task that goes on waiting below its guarantee is granted a core for
-- each late thread, up to its guarantee, within as many passes as a thread takes to leave.
use Rattle.std.specs.Prelude.{◌≡◌, ℕ, ◌+◌, ◌≤◌, ◌==◌, sum_by, List, take, Some, slice_get}
use Rattle.std.specs.Prelude.{if◌then◌else◌}
use Rattle.cal_machine.specs.Table.{Table}
use Rattle.cal_machine.specs.TableTasks.{owner_of}
use Rattle.cal_policy.specs.declared.history.action.Action.{Action}
use Rattle.cal_policy.specs.declared.history.action.Action.TheVariants.{Free, Unban, Ban}
use Rattle.cal_policy.specs.declared.history.action.Action.TheVariants.{Revoke, Cap, Grant}
use Rattle.cal_policy.specs.declared.history.entry.PassEntry.{PassEntry}
use Rattle.cal_policy.specs.History.{actions_of}
use Rattle.cal_policy.specs.Setting.{Setting, setting_of, so_far}
use Rattle.cal_policy.specs.Assured.Pass.{bounded_of}
use Rattle.cal_policy.specs.Assured.Short.{needs}
use Rattle.cal_guarantee.specs.Enough.{WaitsFromTo}

-- a grant of a core to a thread of task t counts one
abbrev pub grants_to : Table → ℕ → Action → ℕ
grants_to table t (Grant core thread class) = if owner_of table thread == t then 1 else 0
grants_to table t (Free core) = 0
grants_to table t (Unban core) = 0
grants_to table t (Ban core thread started) = 0
grants_to table t (Revoke core cause) = 0
grants_to table t (Cap task cap) = 0

-- how many cores these actions grant to threads of task t
abbrev pub granted_to : Table → ℕ → List Action → ℕ
granted_to table t acts = sum_by (grants_to table t) acts

-- how many were granted to them before pass q
abbrev pub granted_before : Table → List PassEntry → ℕ → ℕ → ℕ
granted_before table history t q = granted_to table t (actions_of (take q history))

-- how many cores task t could be granted where the grants of the pass begin
abbrev pub needs_at : Setting → ℕ → ℕ
needs_at s t = needs s (so_far s (bounded_of s)) t

-- through the passes p to p + d task t waits, and needs n cores: where the grants of each of them begin,
-- what it needs there and what it was granted since pass p began come to n at least
pub record NeedsFromTo (table : Table) (history : List PassEntry) (t d n p : ℕ) : Type 0 where
  pub waits : WaitsFromTo table history t d p
  pub needs : (q : ℕ) (entry : PassEntry) → p ≤ q → q ≤ p + d → slice_get history q ≡ Some entry →
      granted_before table history t p + n
      ≤ granted_before table history t q + needs_at (setting_of table (take q history) entry) t

-- a task that needs n cores so is granted n in these passes
abbrev pub GuaranteesAreGivenWhole : Type 0
GuaranteesAreGivenWhole = (table : Table) (history : List PassEntry) (t d n p : ℕ) →
    NeedsFromTo table history t d n p →
    granted_before table history t p + n ≤ granted_before table history t (p + d + 1)
