-- What a pass makes of a scheduler.
use Rattle.std.specs.Prelude.{◌≡◌, ℕ, ◌<◌, ◌≤◌, ◌⊎◌, List, [], ◌∷◌, ◌++◌, length}
use Rattle.cal_machine.specs.Table.{Table}
use Rattle.cal_policy.specs.declared.book.Book.{Book}
use Rattle.cal_policy.specs.declared.history.action_list.TheConstants.{MOST_ACTIONS}
use Rattle.cal_policy.specs.declared.history.entry.PassEntry.{PassEntry}
use Rattle.cal_policy.specs.declared.history.input.Input.{Input}
use Rattle.cal_policy.specs.declared.policy.Policy.{Policy}
use Rattle.cal_policy.specs.Book.{board_in}
use Rattle.cal_policy.specs.State.{IsStateAfter}
use Rattle.cal_policy.specs.Judgement.Judging.{IsInput}
use Rattle.cal_policy.specs.Policies.{pass_by, IsLegalBy}
use Rattle.cal_policy.specs.Setting.{setting}
use Rattle.caladan_c.specs.Standing.{Standing}
use Rattle.caladan_c.specs.declared.told.Told.{Told}

-- it is so after each history of the book's policy that leaves the state which the book keeps
abbrev pub AfterOwn : Table → Book → (List PassEntry → Type 0) → Type 0
AfterOwn table book is =
    (h : List PassEntry) → IsLegalBy book.policy table h → IsStateAfter (board_in book) h → is h

-- the pass itself: what the policy does on this input after this history
abbrev pub passed : Policy → Table → List PassEntry → Input → PassEntry
passed policy table history input =
    record { input = input; actions = pass_by policy (setting table history input) }

-- the scheduler's policy made the pass
pub record MadePass (old : Standing) (history : List PassEntry) (given : Input) (new : Standing)
    : Type 0 where
  -- it may be given its input
  pub input : IsInput old.table history given
  -- its actions are the policy's
  pub actions : new.made ≡ pass_by old.book.policy (setting old.table history given)
  -- and no more than there is room for
  pub short : length new.made ≤ MOST_ACTIONS
  -- the table and the policy stay
  pub table : new.table ≡ old.table
  pub policy : new.book.policy ≡ old.book.policy
  -- with the pass the history is the policy's
  pub legal : IsLegalBy old.book.policy new.table
      (history ++ passed old.book.policy old.table history given ∷ [])
  -- and the book keeps the state after it
  pub after : IsStateAfter (board_in new.book)
      (history ++ passed old.book.policy old.table history given ∷ [])

-- room for a judgement of each look, and for the most actions that a pass has
abbrev pub HasRoomToTell : ℕ → List ℕ → List Told → Type 0
HasRoomToTell threads judged actions = (threads ≤ length judged) × (MOST_ACTIONS ≤ length actions)

-- too little room for one of them
abbrev pub IsShort : ℕ → List ℕ → List Told → Type 0
IsShort threads judged actions = (length judged < threads) ⊎ (length actions < MOST_ACTIONS)
