-- Of what is given to a run, what is given to each kernel thread.
use Rattle.std.specs.Prelude.{ℕ, ◌≡◌, ◌+◌, ◌==◌, ◌&&◌, List, [], ◌∷◌, Option, Some, None, slice_get}
use Rattle.std.specs.Prelude.{if◌then◌else◌}
use Rattle.std.specs.List.{filter_map}
use Rattle.cal_machine.specs.declared.request.Request.{Request}
use Rattle.cal_kthread.specs.Turn.Turns as turns
use Rattle.cal_trace.specs.declared.arrivals.Arrival.{Arrival}

-- the request, where it comes to thread k before its turn j
abbrev pub coming_to : ℕ → ℕ → Arrival → Option Request
coming_to k j arrival =
    if (arrival.thread == k) && (arrival.turn == j) then Some arrival.request else None

-- the request that comes to thread k before its turn j: the first such one of those given. (Where
-- the arrivals fit a table there is at most one.)
abbrev pub request_at : List Arrival → ℕ → ℕ → Option Request
request_at requests k j = slice_get (filter_map (coming_to k j) requests) 0

-- what is given to thread k for its turns from turn j on, whose clocks these are: for each turn the
-- clock, and the request that comes before it, where one does
abbrev pub turns_from : List Arrival → ℕ → ℕ → List ℕ → List turns.Given
turns_from requests k j [] = []
turns_from requests k j (now ∷ clocks) =
    (now, request_at requests k j) ∷ turns_from requests k (j + 1) clocks

-- and for all its turns
abbrev pub turns_given : List Arrival → List ℕ → ℕ → List turns.Given
turns_given requests clocks k = turns_from requests k 0 clocks

-- one of these requests has this id
abbrev pub IsGiven : List Arrival → ℕ → Type 0
IsGiven requests id = (i : ℕ) × (arrival : Arrival) × (slice_get requests i ≡ Some arrival)
    × (arrival.request.id ≡ id)
