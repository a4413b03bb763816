-- When all the plain data that a world keeps is what the events say.
use Rattle.std.specs.Prelude.{◌≡◌, ℕ, ◌<◌, List, [], ◌∷◌, ◌++◌, length}
use Rattle.cal_machine.specs.Table.{Table, IsTable}
use Rattle.cal_policy.specs.declared.policy.Policy.{Policy}
use Rattle.cal_policy.specs.declared.history.look.Seen.{Seen}
use Rattle.cal_policy.specs.declared.history.look.Seen.TheVariants.{Whole}
use Rattle.cal_machine.specs.TableTasks.{threads_of_table}
use Rattle.cal_world.specs.declared.event.Event.{Event}
use Rattle.cal_world.specs.declared.event.Event.TheVariants.{Take, Yield, Publish}
use Rattle.cal_world.specs.declared.event.Event.TheVariants.{Read, Skip, Decide, Watch}
use Rattle.cal_world.specs.declared.world.present.Present.{Present}
use Rattle.cal_world.specs.Projections.{history_in, actions_in}
use Rattle.cal_world.specs.Looks.{looks_since, record_at}
use Rattle.cal_world.specs.World.{IsAllowedBy, IsLegalListBy}
use Rattle.cal_world.specs.World.Sending.{AreSent, AreGranted}
use Rattle.cal_world.specs.World.Standing.{StandingsAreOf, PagesAreOf}

-- the plain data is what the events say
pub record IsPresent (table : Table) (events : List Event) (present : Present) : Type 0 where
  -- where each thread stands, and what is on its page
  pub standings : StandingsAreOf present.standings.items events
  pub pages : PagesAreOf present.pages.items events
  -- what was sent to each, and to whom each core was last granted
  pub sent : AreSent present.sent.items (actions_in events)
  pub granted : AreGranted present.granted (actions_in events)
  -- the looks since the last Decide
  pub looks : present.looks.items ≡ looks_since events
  -- the passes
  pub history : present.history.items ≡ history_in events
  -- each list has a place for each thread of the table
  pub all_standings : length present.standings.items ≡ threads_of_table table
  pub all_pages : length present.pages.items ≡ threads_of_table table
  pub all_sent : length present.sent.items ≡ threads_of_table table

-- it has each thread of the table
abbrev pub HasAll : Table → Present → Type 0
HasAll table present = (length present.standings.items ≡ threads_of_table table)
    × (length present.pages.items ≡ threads_of_table table)
    × (length present.sent.items ≡ threads_of_table table)

-- what is kept has thread k
pub record KeepsThread (present : Present) (k : ℕ) : Type 0 where
  pub standing : k < length present.standings.items
  pub page : k < length present.pages.items
  pub sent : k < length present.sent.items

-- it has the thread of the event
abbrev pub KeepsThreadOf : Present → Event → Type 0
KeepsThreadOf present (Take thread) = KeepsThread present thread
KeepsThreadOf present (Yield thread) = KeepsThread present thread
KeepsThreadOf present (Publish thread rec) = KeepsThread present thread
KeepsThreadOf present (Read thread number) = KeepsThread present thread
KeepsThreadOf present (Skip thread seen) = Unit {0}
KeepsThreadOf present (Decide entry) = Unit {0}
KeepsThreadOf present (Watch thread number) = KeepsThread present thread

-- the looks since the last Decide, one event more: what was read stays as it was read
abbrev pub looks_with : List Seen → List Event → Event → List Seen
looks_with looks before (Read thread number) =
    looks ++ Whole number (record_at before thread number) ∷ []
looks_with looks before (Skip thread seen) = looks ++ seen ∷ []
looks_with looks before (Decide entry) = []
looks_with looks before _ = looks

abbrev pub LooksGoOn : Type 0
LooksGoOn = (policy : Policy) (table : Table) (before : List Event) (event : Event) →
    IsTable table → IsLegalListBy policy table before → IsAllowedBy policy table before event →
    looks_since (before ++ event ∷ []) ≡ looks_with (looks_since before) before event
