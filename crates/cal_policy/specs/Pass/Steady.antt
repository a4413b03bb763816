-- What holds after the actions so far at every point of a legal history.
use Rattle.std.specs.Prelude.{◌≡◌, ℕ, ◌<◌, ◌≤◌, true, List, length, Some}
use Rattle.cal_machine.specs.Table.{Table}
use Rattle.cal_machine.specs.TableTasks.{threads_of_table, limit_of}
use Rattle.cal_policy.specs.declared.history.action.Action.{Action}
use Rattle.cal_policy.specs.declared.board.holders.Placement as placements
use Rattle.cal_policy.specs.History.{holder_of, last_placement}
use Rattle.cal_policy.specs.Board.Counts.{booked_by}
use Rattle.cal_policy.specs.Board.{placement_of}
use Rattle.cal_policy.specs.Setting.{Setting, so_far}
use Rattle.cal_policy.specs.Pass.Made.{IsMade}
use Rattle.cal_policy.specs.Judgement.Orderly.{fits_state}

-- each core is with a thread of the table, by its last grant; and no task books more cores than its
-- limit
pub record IsSteady (table : Table) (x : List Action) : Type 0 where
  pub threads : (c : ℕ) (p : placements.Placement) → placement_of (holder_of x c) ≡ Some p →
      p.thread < threads_of_table table
  pub granted : (c : ℕ) (p : placements.Placement) → placement_of (holder_of x c) ≡ Some p →
      last_placement x c ≡ Some p
  pub limits : (t : ℕ) → t < length table.tasks → booked_by table x t ≤ limit_of table t

-- at a place of a pass, after the actions acts of it: the state is steady, and the action is made
-- there and fits the state
pub record IsSound (s : Setting) (acts : List Action) (a : Action) : Type 0 where
  pub steady : IsSteady s.table (so_far s acts)
  pub made : IsMade s acts a
  pub fits : fits_state s.table (so_far s acts) a ≡ true
