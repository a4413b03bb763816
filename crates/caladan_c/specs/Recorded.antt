-- The pass that C recorded: the looks, what was judged of each, and the actions.
use Rattle.std.specs.Prelude.{◌≡◌, ℕ, Bool, List, map}
use Rattle.cal_policy.specs.History.Looks.{look_of}
use Rattle.cal_policy.specs.declared.history.look.Seen.{Seen}
use Rattle.cal_policy.specs.declared.history.action.Action.{Action}
use Rattle.cal_policy.specs.declared.history.entry.PassEntry.{PassEntry}
use Rattle.caladan_c.specs.Found.{look_of_found, found_of}
use Rattle.caladan_c.specs.Told.{judgement_of, told_of}
use Rattle.caladan_c.specs.declared.found.Found.{Found}
use Rattle.caladan_c.specs.declared.told.Told.{Told}

-- whether there was room
abbrev pub room_in : Found → Bool
room_in found = (found_of found).room

-- C would be told exactly this of the entry: its looks, its judgements and its actions, in numbers
pub record IsToldOf (now bandwidth : ℕ) (looks : List Found) (judged : List ℕ)
    (actions : List Told) (entry : PassEntry) : Type 0 where
  pub clock : entry.input.now ≡ now
  pub figure : entry.input.bandwidth ≡ bandwidth
  pub seen : map look_of entry.input.seen ≡ map look_of_found looks
  pub judgements : map judgement_of entry.input.seen ≡ judged
  pub rooms : entry.input.rooms ≡ map room_in looks
  pub made : map told_of entry.actions ≡ actions

-- no judged looks are told so
abbrev pub AreNoJudgements : List Found → List ℕ → Type 0
AreNoJudgements looks judged =
    (seen : List Seen) → map look_of seen ≡ map look_of_found looks →
    map judgement_of seen ≡ judged → ⊥

-- no actions are told so
abbrev pub AreNoActions : List Told → Type 0
AreNoActions told = (actions : List Action) → map told_of actions ≡ told → ⊥
