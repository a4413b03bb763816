-- What comes to the threads of a task.
use Rattle.std.specs.Prelude.{◌≡◌, ◌<◌, ◌≤◌, ◌+◌, ◌-◌, ◌^◌, ℕ, List, All, length, sum_by}
use Rattle.std.specs.Prelude.{Option, Some, None}
use Rattle.cal_load.specs.Services.{IsWork}
use Rattle.cal_load.specs.declared.made.TheConstants.{MOST_REQUESTS}
use Rattle.cal_load.specs.declared.making.Coming.{Coming}
use Rattle.cal_load.specs.declared.making.Queue.{Queue}
use Rattle.cal_load.specs.declared.making.Slot.{Slot}
use Rattle.cal_trace.specs.Arrivals.FitsTable.{EachLater}
use Rattle.cal_trace.specs.History.Ranges.{Each}

-- a request comes before one of so many turns, and takes turns as a request may
pub record IsSlot (turns : ℕ) (slot : Slot) : Type 0 where
  pub turn : slot.turn < turns
  pub work : IsWork slot.work

-- a request comes before an earlier turn
abbrev pub IsEarlier : Slot → Slot → Type 0
IsEarlier slot later = slot.turn < later.turn

-- what comes to a thread: each request before a later turn than the one before it; the first free
-- turn is after all of them
pub record IsQueue (turns : ℕ) (queue : Queue) : Type 0 where
  pub each : Each (IsSlot turns) queue.slots.items
  pub rising : EachLater IsEarlier queue.slots.items
  pub free : Each (λ slot. slot.turn < queue.free) queue.slots.items

-- how many requests some queues have
abbrev pub slots_in : List Queue → ℕ
slots_in queues = sum_by (λ queue. length queue.slots.items) queues

-- one more request, where it found a turn
abbrev pub taken_in : Option ℕ → ℕ
taken_in None = 0
taken_in (Some turn) = 1

-- what comes to the threads of a task: as many requests as came but for those that are left out, up
-- to the greatest number
pub record IsComing (coming : Coming) : Type 0 where
  pub queues : All (IsQueue coming.turns) coming.queues.items
  pub counted : coming.came < 2 ^ 64 - 1 →
      slots_in coming.queues.items + coming.left_out ≡ coming.came

-- what comes to so many threads in so many turns, not too many requests
pub record IsComingTo (threads turns : ℕ) (coming : Coming) : Type 0 where
  pub is : IsComing coming
  pub queues : length coming.queues.items ≡ threads
  pub ends : coming.turns ≡ turns
  pub few : coming.came ≤ MOST_REQUESTS
