-- Safe lists of events: legal except for the passes, which may be any that are permitted, whoever
-- chose their actions.
use Rattle.std.specs.Prelude.{◌≡◌, ◌≤◌, ℕ, List, length, take, Some, slice_get}
use Rattle.cal_machine.specs.Table.{Table, IsTable}
use Rattle.cal_guard.specs.Permitted.{IsPermittedPass}
use Rattle.cal_world.specs.declared.event.Event.{Event}
use Rattle.cal_world.specs.declared.event.Event.TheVariants.{Decide}
use Rattle.cal_world.specs.declared.illegal.Illegal.{Illegal}
use Rattle.cal_world.specs.declared.illegal.Illegal.TheVariants.{NotThePass}
use Rattle.cal_world.specs.Projections.{history_in}
use Rattle.cal_world.specs.Looks.{looks_since}
use Rattle.cal_world.specs.World.{Passes, IsLegalList}

-- a Decide is of a permitted pass on the looks since the last one, after the passes before
abbrev pub IsPermittedDecide : Table → List Event → Event → Type 0
IsPermittedDecide table before (Decide entry) =
    (entry.input.seen ≡ looks_since before) × IsPermittedPass table (history_in before) entry
IsPermittedDecide table before _ = Unit {0}

-- so is a safe list told from a legal one; the other rules are the same
abbrev pub PassesSafely : Illegal → Table → List Event → Event → Type 0
PassesSafely NotThePass table before event = IsPermittedDecide table before event
PassesSafely why table before event = Passes why table before event

abbrev pub IsSafeEvent : Table → List Event → Event → Type 0
IsSafeEvent table before event = (why : Illegal) → PassesSafely why table before event

-- a safe list of events: each is safe after those before it
pub record IsSafeList (table : Table) (events : List Event) : Type 0 where
  pub each : (i : ℕ) (event : Event) → slice_get events i ≡ Some event →
      IsSafeEvent table (take i events) event

-- each legal list is safe
abbrev pub LegalListsAreSafe : Type 0
LegalListsAreSafe = (table : Table) (events : List Event) → IsTable table →
    IsLegalList table events → IsSafeList table events

-- P holds of the events so far, at every point of every safe list
abbrev pub OfSafeLists : (Table → List Event → Type 0) → Type 0
OfSafeLists P = (table : Table) (events : List Event) → IsTable table → IsSafeList table events →
    (n : ℕ) → n ≤ length events → P table (take n events)

-- P holds of the events so far, at every point of every legal list
abbrev pub OfLegalLists : (Table → List Event → Type 0) → Type 0
OfLegalLists P = (table : Table) (events : List Event) → IsTable table →
    IsLegalList table events → (n : ℕ) → n ≤ length events → P table (take n events)
