-- A pass that was made, and the state after it.
use Rattle.std.specs.Prelude.{◌≡◌, ◌++◌, ◌∷◌, [], List, length}
use Rattle.cal_policy.specs.State.{IsStateAfter}
use Rattle.cal_policy.specs.declared.board.Board.{Board}
use Rattle.cal_policy.specs.declared.history.entry.PassEntry.{PassEntry}
use Rattle.cal_facts.specs.declared.series.point.MadePass.{MadePass}

-- the pass is this entry, after these passes, and the board is the state that it leaves
pub record IsPassAt (before : List PassEntry) (entry : PassEntry) (board : Board)
    (made : MadePass) : Type 0 where
  pub state : IsStateAfter board (before ++ entry ∷ [])
  pub number : made.pass ≡ length before
  pub now : made.given.now ≡ entry.input.now
  pub bandwidth : made.given.bandwidth ≡ entry.input.bandwidth
