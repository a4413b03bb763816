-- Where a history ends: what is so at its points, said of all its passes together.
use Rattle.std.specs.Prelude.{◌≡◌, ℕ, ◌-◌, ◌<◌, ◌≤◌, false, List, length, None}
use Rattle.cal_machine.specs.Table.{Table, IsTable}
use Rattle.cal_machine.specs.TableTasks.{is_latency_critical}
use Rattle.cal_policy.specs.Pass.Bans.{NoPairBanned}
use Rattle.cal_policy.specs.declared.history.action.Action.{Action}
use Rattle.cal_policy.specs.declared.history.entry.PassEntry.{PassEntry}
use Rattle.cal_policy.specs.History.{actions_of, holder_of}
use Rattle.cal_policy.specs.Board.Counts.{held_by, cap_of}
use Rattle.cal_policy.specs.Pass.{IsLegal}
use Rattle.cal_laws.specs.Point.{Point, IsPoint, point_at, actions_at, next_at}
use Rattle.cal_laws.specs.Exclusion.{HaveOneCore, IsByLastRun}
use Rattle.cal_laws.specs.Limits.{IsWithinLimit}
use Rattle.cal_laws.specs.Bans.{NoneHeld}
use Rattle.cal_laws.specs.Runs.{RunsStand}

-- after all actions of the last pass, which is this entry
abbrev pub end_of : Table → List PassEntry → PassEntry → Point
end_of table history entry =
    point_at table history (length history - 1) entry (length entry.actions)

-- at that point all actions of the history are made, and none comes next
pub record IsEnd (history : List PassEntry) (here : Point) : Type 0 where
  pub all : actions_at here ≡ actions_of history
  pub last : next_at here ≡ None

-- a legal history that is not empty ends at a point of it
pub record EndsAtPoint (table : Table) (history : List PassEntry) : Type 0 where
  pub entry : PassEntry
  pub point : IsPoint (end_of table history entry)
  pub end : IsEnd history (end_of table history entry)

abbrev pub EndsArePoints : Type 0
EndsArePoints = (table : Table) (history : List PassEntry) → IsTable table → IsLegal table history →
    0 < length history → EndsAtPoint table history

-- what every law of all actions so far says, after the whole passes of a history: one core for each
-- thread, by its last Run; Runs stand until they are left; limits and caps are kept; no pair is
-- banned, and no banned core is held
pub record IsSafeBetween (table : Table) (history : List PassEntry) (x : List Action) : Type 0 where
  pub one_core : HaveOneCore table x
  pub last_run : (c : ℕ) → c < table.cores → IsByLastRun x c (holder_of x c)
  pub runs : RunsStand table history x
  pub limits : (t : ℕ) → t < length table.tasks → IsWithinLimit table x t
  pub caps : (t : ℕ) → is_latency_critical table t ≡ false → held_by table x t ≤ cap_of table x t
  pub apart : NoPairBanned x
  pub empty : NoneHeld x
