-- Cores are freed only where their thread showed that it left.
use Rattle.std.specs.Prelude.{◌≡◌, ℕ, ◌<◌, ◌≤◌, List, Some}
use Rattle.cal_policy.specs.declared.history.action.Action.{Action}
use Rattle.cal_policy.specs.declared.board.holders.Placement as placements
use Rattle.cal_policy.specs.History.{holder_of}
use Rattle.cal_policy.specs.Board.{placement_of}
use Rattle.cal_policy.specs.Setting.{Setting, so_far, kept_now}

-- the core is the machine's, is held or being left, and the kept record of its thread acknowledges
-- the Run that put it there and shows it on no core
pub record HasBeenLeft (s : Setting) (acts : List Action) (core : ℕ) : Type 0 where
  pub own : core < s.table.cores
  pub left : placements.Placement
  pub holder : placement_of (holder_of (so_far s acts) core) ≡ Some left
  pub acknowledged : left.number ≤ (kept_now s left.thread).taken
  pub on_none : (kept_now s left.thread).running ≡ 0
