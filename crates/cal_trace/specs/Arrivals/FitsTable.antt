-- Arrivals that fit a table: what the engines ask of them.
use Rattle.std.specs.Prelude.{◌≡◌, ◌<◌, ◌≤◌, ◌⊎◌, ℕ, List, length, Some, slice_get}
use Rattle.cal_machine.specs.Table.{Table}
use Rattle.cal_machine.specs.Tasks.{threads_in}
use Rattle.cal_trace.specs.declared.arrivals.reading.TheConstants.{MOST_TURNS, MOST_WORK}
use Rattle.cal_trace.specs.declared.arrivals.reading.TheConstants.{MOST_REQUEST_MISSES}
use Rattle.cal_policy.specs.declared.history.entry.TheConstants.{MOST_PASSES}
use Rattle.cal_trace.specs.History.Ranges.{Each}
use Rattle.cal_trace.specs.declared.arrivals.Arrival.{Arrival}
use Rattle.cal_trace.specs.declared.arrivals.Arrivals.{Arrivals}

-- each member of a list stands so to each later one
pub record EachLater {X : Type 0} (P : X → X → Type 0) (xs : List X) : Type 0 where
  pub at : (i j : ℕ) (x y : X) → i < j → slice_get xs i ≡ Some x → slice_get xs j ≡ Some y → P x y

-- a request for one of so many threads, before one of so many turns, with its work and its misses
-- in their ranges
pub record IsArrival (threads turns : ℕ) (arrival : Arrival) : Type 0 where
  pub thread : arrival.thread < threads
  pub turn : arrival.turn < turns
  pub some_work : 1 ≤ arrival.request.work
  pub most_work : arrival.request.work ≤ MOST_WORK
  pub misses : arrival.request.misses ≤ MOST_REQUEST_MISSES

-- one request comes before another: for an earlier thread, or for the same one and before an
-- earlier turn
abbrev pub ComesBefore : Arrival → Arrival → Type 0
ComesBefore a b = (a.thread < b.thread) ⊎ ((a.thread ≡ b.thread) × (a.turn < b.turn))

-- two requests are of two ids
abbrev pub HaveTwoIds : Arrival → Arrival → Type 0
HaveTwoIds a b = a.request.id ≡ b.request.id → ⊥

-- arrivals for these many threads
pub record Fits (threads : ℕ) (arrivals : Arrivals) : Type 0 where
  pub few_passes : length arrivals.passes ≤ MOST_PASSES
  pub few_turns : length arrivals.turns ≤ MOST_TURNS
  pub clocks : Each (λ now. 1 ≤ now) arrivals.turns
  pub never_fall : EachLater (λ now later. now ≤ later) arrivals.turns
  pub each : Each (IsArrival threads (length arrivals.turns)) arrivals.requests
  pub rising : EachLater ComesBefore arrivals.requests
  pub once : EachLater HaveTwoIds arrivals.requests

-- arrivals that fit a table: at most 1,048,576 passes and 174,762 turns; turns' clocks at least 1
-- and never falling; each request for a thread of the table and before a turn that there is, of 1
-- to 1,000,000 work and at most 4,294,967,295 misses; requests in strictly rising order of thread
-- and turn; each id once
abbrev pub FitsTable : Table → Arrivals → Type 0
FitsTable table arrivals = Fits (threads_in table.tasks) arrivals
