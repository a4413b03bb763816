-- When the requests of a run came. A request may come before the turn at which its thread gets it.
use Rattle.std.specs.Prelude.{◌≡◌, ◌≤◌, ℕ, ◌==◌, List, map, Option, Some, None}
use Rattle.std.specs.Prelude.{slice_get, slice_index_or, if◌then◌else◌}
use Rattle.cal_policy.specs.History.Lists.{last_of}
use Rattle.cal_trace.specs.declared.arrivals.Arrival.{Arrival}
use Rattle.cal_trace.specs.declared.arrivals.Arrivals.{Arrivals}
use Rattle.cal_came.specs.declared.came.Came.{Came}

-- the clock of the turn at which a thread gets the request of an arrival
abbrev pub clock_of : List ℕ → Arrival → ℕ
clock_of turns arrival = slice_index_or turns arrival.turn 0

-- the request of an arrival, as one that came to its turn, at the clock of that
abbrev pub own_came : List ℕ → Arrival → Came
own_came turns arrival = record {
  id = arrival.request.id;
  turn = arrival.turn;
  clock = clock_of turns arrival;
}

-- each request of these arrivals, as one that came to its own turn
abbrev pub each_own : Arrivals → List Came
each_own arrivals = map (own_came arrivals.turns) arrivals.requests

-- a request, where it has this name
abbrev pub of_name : ℕ → List Came → Came → Option Came
of_name id before came = if came.id == id then Some came else None

-- how the request of this name came. A run is given each name once
abbrev pub told_of : List Came → ℕ → Option Came
told_of all id = last_of (of_name id) all

-- the clock at which it came; of a name that the run was not given nothing is asked
abbrev pub clock_in : Option Came → ℕ
clock_in None = 0
clock_in (Some came) = came.clock

abbrev pub came_at : List Came → ℕ → ℕ
came_at all id = clock_in (told_of all id)

-- the turn to which it came
abbrev pub turn_in : Option Came → ℕ
turn_in None = 0
turn_in (Some came) = came.turn

abbrev pub came_to : List Came → ℕ → ℕ
came_to all id = turn_in (told_of all id)

-- how each request of these arrivals came, in their order: to its turn or one before it, at the clock
-- of that, which is not after the clock of its turn
pub record AreCameOf (arrivals : Arrivals) (came : List Came) : Type 0 where
  pub ids : map (λ one. one.id) came ≡ map (λ arrival. arrival.request.id) arrivals.requests
  pub before : (i : ℕ) (one : Came) (arrival : Arrival) → slice_get came i ≡ Some one →
      slice_get arrivals.requests i ≡ Some arrival → one.clock ≤ clock_of arrivals.turns arrival
  pub turns : (i : ℕ) (one : Came) (arrival : Arrival) → slice_get came i ≡ Some one →
      slice_get arrivals.requests i ≡ Some arrival → one.turn ≤ arrival.turn
  pub clocks : (i : ℕ) (one : Came) (arrival : Arrival) → slice_get came i ≡ Some one →
      slice_get arrivals.requests i ≡ Some arrival →
      one.clock ≡ slice_index_or arrivals.turns one.turn 0
