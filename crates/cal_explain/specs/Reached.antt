-- The state in which the passes before another leave the board.
use Rattle.std.specs.Prelude.{List, Option, Some, None}
use Rattle.cal_machine.specs.Table.{Table}
use Rattle.cal_policy.specs.Judgement.Orderly.{IsOrderly}
use Rattle.cal_policy.specs.State.{IsReady, IsStateAfter}
use Rattle.cal_policy.specs.declared.board.Board.{Board}
use Rattle.cal_policy.specs.declared.history.entry.PassEntry.{PassEntry}

-- these passes are orderly, and leave this state, from which passes can be explained
pub record IsOrderlyState (table : Table) (history : List PassEntry) (board : Board) : Type 0 where
  pub orderly : IsOrderly table history
  pub after : IsStateAfter board history
  pub ready : IsReady table board

-- these passes leave this state; none where they are not orderly
abbrev pub IsReached : Table → List PassEntry → Option Board → Type 0
IsReached table history None = ¬ IsOrderly table history
IsReached table history (Some board) = IsOrderlyState table history board
