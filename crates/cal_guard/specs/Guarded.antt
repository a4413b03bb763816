-- The board that a guard keeps, when it is inside a pass, and which histories and passes its clauses
-- speak of.
use Rattle.std.specs.Prelude.{◌↔◌, ℕ, List, [], ◌∷◌, ◌++◌}
use Rattle.cal_machine.specs.Table.{Table}
use Rattle.cal_policy.specs.declared.history.action.Action.{Action}
use Rattle.cal_policy.specs.declared.history.entry.PassEntry.{PassEntry}
use Rattle.cal_policy.specs.declared.history.input.Input.{Input}
use Rattle.cal_policy.specs.declared.judgement.open_input.FoundLook.{FoundLook}
use Rattle.cal_policy.specs.declared.judgement.open_pass.OpenPass.{OpenPass}
use Rattle.cal_policy.specs.Judgement.OpenInput.{judged_input}
use Rattle.cal_policy.specs.Judgement.OpenPass.{IsOpenAt}
use Rattle.cal_policy.specs.Setting.{Setting, setting}
use Rattle.cal_policy.specs.declared.board.Board.{Board}
use Rattle.cal_policy.specs.State.{IsStateAfter}
use Rattle.cal_guard.specs.declared.guard.Guard.{Guard}
use Rattle.cal_guard.specs.Permitted.{ArePermitted, IsPermittedHistory}
use Rattle.cal_guard.specs.Refusals.{MayEndWith}
use Rattle.cal_guard.specs.Passing.{IsInside}

-- the board that a guard keeps. A guard is ready for a table where this board is, and it is a guard
-- of a history where this board is the state after it
abbrev pub board_in : Guard → Board
board_in guard = guard.passing.board

-- the guard is inside a pass, after the actions acts of it
pub record IsWithin (guard : Guard) (s : Setting) (acts : List Action) : Type 0 where
  pub inside : IsInside guard.passing s acts

-- the history, and then the pass on this input with these actions
abbrev pub and_then : List PassEntry → Input → List Action → List PassEntry
and_then history input actions = history ++ record { input = input; actions = actions } ∷ []

-- it holds for every permitted history that leaves the state which the guard keeps
abbrev pub AfterPermitted : Table → Guard → (List PassEntry → Type 0) → Type 0
AfterPermitted table guard is = (h : List PassEntry) → IsPermittedHistory table h →
    IsStateAfter (board_in guard) h → is h

-- the same of a pass on these looks as they came in, at this clock and bandwidth figure: it is so of
-- the history and of the input that is made of the looks
abbrev pub AfterPermittedOpen : Table → Guard → ℕ → ℕ → OpenPass →
    (List PassEntry → Input → Type 0) → Type 0
AfterPermittedOpen table guard now bandwidth looks is =
    (h : List PassEntry) (found : List FoundLook) → IsPermittedHistory table h →
    IsStateAfter (board_in guard) h → IsOpenAt table h found looks →
    is h (judged_input table h now bandwidth found)

-- it is so within each pass on this input that the guard may be in, after the actions of it so far
abbrev pub InPass : Table → Guard → Input → (Setting → List Action → Type 0) → Type 0
InPass table guard input is = (h : List PassEntry) (acts : List Action) →
    IsWithin guard (setting table h input) acts → is (setting table h input) acts

-- the same within a pass on these looks as they came in, at this clock and bandwidth figure
abbrev pub InOpenPass : Table → Guard → ℕ → ℕ → OpenPass → (Setting → List Action → Type 0) → Type 0
InOpenPass table guard now bandwidth looks is =
    (h : List PassEntry) (found : List FoundLook) (acts : List Action) → IsOpenAt table h found looks →
    let s = setting table h (judged_input table h now bandwidth found) in
    IsWithin guard s acts → is s acts

-- after a permitted pass a group of actions may follow just where with them it is a permitted pass
abbrev pub GroupsMakeAPass : Type 0
GroupsMakeAPass = (s : Setting) (acts group : List Action) → ArePermitted s acts →
    MayEndWith s acts group ↔ ArePermitted s (acts ++ group)
