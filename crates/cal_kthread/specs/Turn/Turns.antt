-- What turns add to a journal: one after the other, and how few.
use Rattle.std.specs.Prelude.{◌≡◌, ℕ, ◌+◌, ◌*◌, ◌≤◌, Option, option_map}
use Rattle.std.specs.Prelude.{option_to_list, List, [], ◌∷◌, ◌++◌, length, map}
use Rattle.std.specs.List.{filter_map}
use Rattle.cal_machine.specs.declared.request.Request.{Request}
use Rattle.cal_signal.specs.declared.record.Record.{Record}
use Rattle.cal_kthread.specs.declared.journal.entry.Entry.{Entry}
use Rattle.cal_kthread.specs.declared.journal.entry.Entry.TheVariants.{Arrived, Published}
use Rattle.cal_kthread.specs.Journal.{arrivals_of, records_of}

-- What one turn adds to a journal.
pub record IsOneTurn (now : ℕ) (request : Option Request) (before after : List Entry) : Type 0 where
  -- what lies between its arrival and its publication, and the record that it publishes
  pub between : List Entry
  pub shows : Record
  -- first the arrival of its request, where one came; then those between; and last a publication,
  -- with the next number
  pub added : after ≡ before ++ option_to_list (option_map Arrived request) ++ between
      ++ Published (length (records_of before) + 1) shows ∷ []
  -- at most three entries lie between
  pub few : length between ≤ 3
  -- none is an arrival
  pub no_arrival : arrivals_of between ≡ []
  -- and none a publication
  pub no_publication : records_of between ≡ []
  -- the record's stamp is the clock
  pub stamp : shows.stamp ≡ now

-- a turn's clock, and the request that came, if one did
abbrev pub Given : Type 0
Given = ℕ × Option Request

-- what these turns add, one after the other
abbrev pub AreTurns : List Given → List Entry → List Entry → Type 0
AreTurns [] before after = after ≡ before
AreTurns (given ∷ turns) before after =
    (journal : List Entry) × IsOneTurn given.0 given.1 before journal × AreTurns turns journal after

-- What these turns make of an empty journal: each publishes one record, with its clock as the
-- stamp, the arrivals are the requests that came, and for each turn there are at most five entries.
pub record IsOfTurns (turns : List Given) (journal : List Entry) : Type 0 where
  pub stamps : map (λ (shows : Record). shows.stamp)
      (records_of journal) ≡ map (λ (given : Given). given.0) turns
  pub arrivals : arrivals_of journal ≡ filter_map (λ (given : Given). given.1) turns
  pub few : length journal ≤ 5 * length turns

-- The law of one turn more.
abbrev pub OneTurnMore : Type 0
OneTurnMore = (turns : List Given) (now : ℕ) (request : Option Request)
    (first before after : List Entry)
    → AreTurns turns first before → IsOneTurn now request before after
    → AreTurns (turns ++ (now, request) ∷ []) first after

-- The law of a thread's turns.
abbrev pub TurnsAddUp : Type 0
TurnsAddUp = (turns : List Given) (journal : List Entry) → AreTurns turns [] journal →
    IsOfTurns turns journal
