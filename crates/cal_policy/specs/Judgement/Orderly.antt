-- Histories in which each action fits the state before it. The policy's definitions are read over
-- these. Doranjei's own.
use Rattle.std.specs.Prelude.{◌≡◌, ℕ, ◌&&◌, Bool, true, not, nat_le, nat_lt, List}
use Rattle.std.specs.Prelude.{◌++◌, length, take, Some, slice_get, IsTrue, ◌==◌}
use Rattle.cal_machine.specs.Table.{Table}
use Rattle.cal_machine.specs.TableTasks.{threads_of_table, limit_of}
use Rattle.cal_machine.specs.Machine.{sibling_of}
use Rattle.cal_policy.specs.declared.history.action.Action.{Action}
use Rattle.cal_policy.specs.declared.history.action.Action.TheVariants.{Free, Unban, Ban}
use Rattle.cal_policy.specs.declared.history.action.Action.TheVariants.{Revoke, Cap, Grant}
use Rattle.cal_policy.specs.declared.history.action.Cause.{Cause}
use Rattle.cal_policy.specs.declared.history.action.Cause.TheVariants as causes
use Rattle.cal_policy.specs.declared.history.entry.PassEntry.{PassEntry}
use Rattle.cal_policy.specs.History.{actions_of, holder_of, is_banned}
use Rattle.cal_policy.specs.Board.Counts.{is_free, is_held, cores_of_thread}
use Rattle.cal_policy.specs.Judgement.Judging.{AreFitLooks}

-- cores and tasks named by a cause are the table's
abbrev pub names_table : Table → Cause → Bool
names_table table (causes.Ban by) = nat_lt by table.cores
names_table table causes.Bandwidth = true
names_table table (causes.Preempt task) = nat_lt task (length table.tasks)

-- the action names the table's cores, threads and tasks, and fits the state after the actions x
abbrev pub fits_state : Table → List Action → Action → Bool
fits_state table x (Free core) = nat_lt core table.cores && not (is_free (holder_of x core))
fits_state table x (Unban core) = nat_lt core table.cores && is_banned x core
fits_state table x (Ban core thread started) =
    nat_lt core table.cores && nat_lt thread (threads_of_table table) && not (is_banned x core)
    && not (is_banned x (sibling_of core))
fits_state table x (Revoke core cause) =
    nat_lt core table.cores && names_table table cause && is_held (holder_of x core)
fits_state table x (Cap task cap) =
    nat_lt task (length table.tasks) && nat_le cap (limit_of table task)
fits_state table x (Grant core thread class) =
    nat_lt core table.cores && nat_lt thread (threads_of_table table) && is_free (holder_of x core)
    && (cores_of_thread table x thread == 0)

-- each of these actions fits the state after the actions x and those of them that come before it
abbrev pub FitInTurn : Table → List Action → List Action → Type 0
FitInTurn table x actions = (i : ℕ) (action : Action) → slice_get actions i ≡ Some action →
    IsTrue (fits_state table (x ++ take i actions) action)

-- one entry of an orderly history, after the passes before it
pub record IsOrderlyEntry (table : Table) (before : List PassEntry)
    (entry : PassEntry) : Type 0 where
  pub looks : AreFitLooks table before entry.input
  pub actions : FitInTurn table (actions_of before) entry.actions

-- an orderly history: each pass is an orderly entry after those before it
pub record IsOrderly (table : Table) (history : List PassEntry) : Type 0 where
  pub entries : (p : ℕ) (entry : PassEntry) → slice_get history p ≡ Some entry →
      IsOrderlyEntry table (take p history) entry
