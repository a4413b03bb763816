-- A point inside a pass of a legal history: every law is said at one.
use Rattle.std.specs.Prelude.{◌≡◌, ℕ, ◌≤◌, List, length, take, Some, Option, slice_get}
use Rattle.cal_machine.specs.Table.{Table, IsTable}
use Rattle.cal_policy.specs.declared.history.action.Action.{Action}
use Rattle.cal_policy.specs.declared.history.entry.PassEntry.{PassEntry}
use Rattle.cal_policy.specs.Setting.{Setting, setting_of, so_far}
use Rattle.cal_policy.specs.Pass.{IsLegal}

-- where a run has come: `entry` is pass number `pass` of the history, and the first `made` of its
-- actions are made
pub record Point : Type 0 where
  pub table : Table
  pub history : List PassEntry
  pub pass : ℕ
  pub entry : PassEntry
  pub made : ℕ

-- a point of these
abbrev pub point_at : Table → List PassEntry → ℕ → PassEntry → ℕ → Point
point_at table history pass entry made =
    record { table = table; history = history; pass = pass; entry = entry; made = made }

-- what the pass at this point goes by: the table, the passes before it, its input
abbrev pub setting_at : Point → Setting
setting_at here = setting_of here.table (take here.pass here.history) here.entry

-- the actions of the pass that are made at this point
abbrev pub made_at : Point → List Action
made_at here = take here.made here.entry.actions

-- all actions up to this point: those of the passes before, then those made of this one
abbrev pub actions_at : Point → List Action
actions_at here = so_far (setting_at here) (made_at here)

-- the action that comes next in the pass; None at its end
abbrev pub next_at : Point → Option Action
next_at here = slice_get here.entry.actions here.made

-- the point lies in a pass of a legal history: before its first action, between two, or after its
-- last
pub record IsPoint (here : Point) : Type 0 where
  pub table : IsTable here.table
  pub legal : IsLegal here.table here.history
  pub entry : slice_get here.history here.pass ≡ Some here.entry
  pub made : here.made ≤ length here.entry.actions
