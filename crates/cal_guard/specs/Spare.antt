-- The spare state of a guard, on which actions are tried: what is true of the state is true of it.
use Rattle.std.specs.Prelude.{◌≡◌, List, length}
use Rattle.cal_machine.specs.Table.{Table}
use Rattle.cal_machine.specs.declared.machine.TheConstants.{MOST_CORES}
use Rattle.cal_policy.specs.declared.board.Board.{Board}
use Rattle.cal_policy.specs.declared.history.action.Action.{Action}
use Rattle.cal_policy.specs.Setting.{Setting}
use Rattle.cal_policy.specs.State.{IsReady}
use Rattle.cal_guard.specs.declared.passing.Passing.{Passing}
use Rattle.cal_guard.specs.Passing.{IsAfter}

-- what a guard shows of its two states: the one that the passes were taken into
pub record GuardState : Type 0 where
  pub passing : Passing

-- each list of the board that goes by cores has a place for each
pub record HasPlaces (b : Board) : Type 0 where
  pub granted : length b.holding.granted ≡ MOST_CORES
  pub holders : length b.holding.holders ≡ MOST_CORES
  pub bans : length b.bans.bans ≡ MOST_CORES

-- both stand in one pass, after the same actions of it
pub record AreTwins (passing spare : Passing) : Type 0 where
  pub setting : Setting
  pub acts : List Action
  pub one : IsAfter passing setting acts
  pub other : IsAfter spare setting acts
  pub made : spare.made ≡ passing.made

-- the spare stands where the state does, and is ready for each table that the state is ready for
pub record IsSpareOf (passing spare : Passing) : Type 0 where
  pub twins : AreTwins passing spare
  pub ready : (table : Table) → IsReady table passing.board → IsReady table spare.board
