-- When the plain data that a world keeps of the kernel threads is what the events say.
use Rattle.std.specs.Prelude.{◌≡◌, ℕ, List, Some, slice_get}
use Rattle.cal_signal.specs.declared.record.Record.{Record}
use Rattle.cal_world.specs.declared.event.Event.{Event}
use Rattle.cal_world.specs.declared.world.standing.Standing.{Standing}
use Rattle.cal_world.specs.Projections.{takes_in}
use Rattle.cal_world.specs.Threads.{state_in, running_on, page_in, read_floor, watch_floor}

-- it is what these events say of thread k
pub record IsOf (standing : Standing) (events : List Event) (k : ℕ) : Type 0 where
  pub taken : standing.taken ≡ (state_in events k).taken
  pub takes : standing.taken ≡ takes_in events k
  pub core : standing.core ≡ running_on events k
  pub read_floor : standing.read_floor ≡ read_floor events k
  pub watch_floor : standing.watch_floor ≡ watch_floor events k

-- each is that of the thread at its place
abbrev pub StandingsAreOf : List Standing → List Event → Type 0
StandingsAreOf standings events = (k : ℕ) (standing : Standing) →
    slice_get standings k ≡ Some standing → IsOf standing events k

abbrev pub PagesAreOf : List (List Record) → List Event → Type 0
PagesAreOf pages events =
    (k : ℕ) (page : List Record) → slice_get pages k ≡ Some page → page ≡ page_in events k
