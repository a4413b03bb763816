-- Where a kernel thread stands among the turns that it is given.
pub mod GivenTurns
use Rattle.std.specs.Prelude.{◌≡◌, ◌<◌, ◌≤◌, ◌⊎◌, ℕ, List, [], map, take, Some, slice_get}
use Rattle.atomic_table.specs.Seated.{TableId}
use Rattle.cal_command.specs.Rings.{RingId}
use Rattle.cal_signal.specs.Pages.{last_published}
use Rattle.cal_kthread.specs.Team.{Place, place_of}
use Rattle.cal_kthread.specs.Turn.Thread.{KernelView}
use Rattle.cal_kthread.specs.Turn.Turns.{AreTurns}
use Rattle.cal_kthread.specs.declared.journal.entry.Entry.{Entry}
use Rattle.cal_trace.specs.Arrivals.FitsTable.{Fits}
use Rattle.cal_trace.specs.declared.arrivals.Arrival.{Arrival}
use Rattle.cal_trace.specs.declared.arrivals.Arrivals.{Arrivals}
use Rattle.cal_run.specs.Workers.GivenTurns.{turns_given}
use Rattle.cal_run.specs.declared.workers.worker.Worker.{Worker}

-- the arrivals fit some table
abbrev pub FitSomeTable : Arrivals → Type 0
FitSomeTable arrivals = (threads : ℕ) × Fits threads arrivals

-- it made no turn yet
abbrev pub MadeNoTurn : KernelView → Type 0
MadeNoTurn thread = (thread.journal ≡ []) × (thread.thread.publisher.published ≡ [])

-- so did each of these
abbrev pub HaveMadeNoTurn : List KernelView → Type 0
HaveMadeNoTurn threads = (k : ℕ) (thread : KernelView) → slice_get threads k ≡ Some thread →
    MadeNoTurn thread

-- a request that comes to a thread before thread k's turn j, in the order of threads and then turns
abbrev pub IsBefore : ℕ → ℕ → Arrival → Type 0
IsBefore k j arrival = (arrival.thread < k) ⊎ ((arrival.thread ≡ k) × (arrival.turn < j))

-- and one that does not
abbrev pub IsFrom : ℕ → ℕ → Arrival → Type 0
IsFrom k j arrival = (k < arrival.thread) ⊎ ((arrival.thread ≡ k) × (j ≤ arrival.turn))

-- of requests in that order, the first n come before thread k's turn j, and the others do not
pub record IsNext (requests : List Arrival) (k j n : ℕ) : Type 0 where
  pub before : (i : ℕ) (arrival : Arrival) → i < n → slice_get requests i ≡ Some arrival →
      IsBefore k j arrival
  pub others : (i : ℕ) (arrival : Arrival) → n ≤ i → slice_get requests i ≡ Some arrival →
      IsFrom k j arrival

-- The thread has made its first j turns of those given to thread k, and no other. The place of the
-- next request is at hand, and no clock of a turn that is still to come is below the last stamp.
pub record HasMade (arrivals : Arrivals) (k j : ℕ) (worker : Worker) : Type 0 where
  pub number : worker.number ≡ k
  pub turns : AreTurns (take j (turns_given arrivals.requests arrivals.turns k)) []
      worker.thread.journal
  pub next : IsNext arrivals.requests k j worker.next
  pub stamp : (i now : ℕ) → j ≤ i → slice_get arrivals.turns i ≡ Some now →
      (last_published worker.thread.thread.publisher.published).stamp ≤ now

-- so has each of the threads of a run, the first of which is thread 0
abbrev pub HaveMade : Arrivals → ℕ → List Worker → Type 0
HaveMade arrivals j workers = (k : ℕ) (worker : Worker) → slice_get workers k ≡ Some worker →
    HasMade arrivals k j worker

-- what a thread keeps over its turns: its page, its ring, and its place in its team
pub record Seat : Type 0 where
  pub page : TableId
  pub ring : RingId
  pub place : Place

abbrev pub seat_of : KernelView → Seat
seat_of thread = record {
  page = thread.thread.publisher.page;
  ring = thread.thread.taker.ring;
  place = place_of thread.thread;
}

abbrev pub seats_of : List Worker → List Seat
seats_of = map (λ worker. seat_of worker.thread)

-- the pages and the rings of these seats, in thread order
abbrev pub pages_of_seats : List Seat → List TableId
pages_of_seats = map (λ seat. seat.page)

abbrev pub rings_of_seats : List Seat → List RingId
rings_of_seats = map (λ seat. seat.ring)

-- what these threads did, in thread order
abbrev pub journals_of : List Worker → List (List Entry)
journals_of = map (λ worker. worker.thread.journal)
