-- Requests while they are put together, thread by thread.
use Rattle.std.specs.Prelude.{◌≡◌, ◌<◌, ◌≤◌, ◌^◌, ◌⊎◌, ℕ, List, ◌++◌, length}
use Rattle.cal_trace.specs.Arrivals.FitsTable.{EachLater, IsArrival, ComesBefore, HaveTwoIds}
use Rattle.cal_trace.specs.History.Ranges.{Each}
use Rattle.cal_trace.specs.declared.arrivals.Arrival.{Arrival}

-- a request is for an earlier thread than this, or for it and before an earlier turn
abbrev pub IsBefore : ℕ → ℕ → Arrival → Type 0
IsBefore thread turn arrival =
    (arrival.thread < thread) ⊎ ((arrival.thread ≡ thread) × (arrival.turn < turn))

-- the id of a request is that of one of so many, which fields can spell
abbrev pub HasIdTo : ℕ → Arrival → Type 0
HasIdTo many arrival = (arrival.request.id ≤ many) × (arrival.request.id < 2 ^ 64)

-- requests for so many threads and turns, in their order, all before this turn of this thread, with
-- ids from 1
pub record AreBuiltTo (threads turns thread turn : ℕ) (requests : List Arrival) : Type 0 where
  pub each : Each (IsArrival threads turns) requests
  pub rising : EachLater ComesBefore requests
  pub once : EachLater HaveTwoIds requests
  pub before : Each (IsBefore thread turn) requests
  pub ids : Each (HasIdTo (length requests)) requests

-- all of them for earlier threads than this
abbrev pub AreBuilt : ℕ → ℕ → ℕ → List Arrival → Type 0
AreBuilt threads turns thread requests = AreBuiltTo threads turns thread 0 requests

-- there are more requests than before: these at the end, all for threads from a first one up to
-- another, and with so many misses
pub record HasMoreFor (first after misses : ℕ) (old new : List Arrival) : Type 0 where
  pub own : List Arrival
  pub more : new ≡ old ++ own
  pub each : Each (λ arrival. (first ≤ arrival.thread) × (arrival.thread < after)) own
  pub missed : Each (λ arrival. arrival.request.misses ≡ misses) own
