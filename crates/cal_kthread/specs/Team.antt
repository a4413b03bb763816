-- A team of kernel threads: whose queue each thief steals from, and who has the shares of each
-- queue.
pub mod Linking
pub mod Opening
pub mod Turns
use Rattle.std.specs.Prelude.{◌≡◌, ℕ, ◌+◌, nat_eq, List, map}
use mathlib.Core.Option.{some}
use lib.ListN.{get_elem?}
use Rattle.cal_kthread.specs.Places.{Each, one_if}
use Rattle.cal_kthread.specs.Queue.{QueueId}
use Rattle.cal_kthread.specs.Queue.Rule.{queue_shares, weigh}
use Rattle.cal_kthread.specs.End.Rest.{RestView}
use Rattle.cal_kthread.specs.Turn.Thread.{ThreadView}
use Rattle.cal_kthread.specs.declared.turn.sources.Source.{Source}

-- the place of a thread in its team: its queue, how many of the queue's shares its own end has, and
-- its thieves, each with the number of the thread that it steals from and with that thread's queue
pub record Place : Type 0 where
  pub queue : QueueId
  pub shares : ℕ
  pub thieves : List (ℕ × QueueId)

abbrev pub thief_place : Source → ℕ × QueueId
thief_place v = (v.number, v.thief.queue)

abbrev pub place_of : ThreadView → Place
place_of t = record {
  queue = t.queue.queue;
  shares = t.queue.shares;
  thieves = map thief_place t.sources;
}

abbrev pub place_of_rest : RestView → Place
place_of_rest r = record {
  queue = r.queue.queue;
  shares = r.queue.shares;
  thieves = map thief_place r.sources;
}

-- how many thieves steal from the thread k: those of one thread, and those of all
abbrev pub lent_to : ℕ → Place → ℕ
lent_to k place = weigh (λ thief. one_if (nat_eq thief.0 k)) place.thieves

abbrev pub lent : ℕ → List Place → ℕ
lent k places = weigh (lent_to k) places

abbrev pub queues_of : List Place → List QueueId
queues_of = map (λ place. place.queue)

-- Each thief is at the queue of the thread that it is to steal from, and has one of that queue's
-- shares; the thread itself has the others.
pub record IsTeam (places : List Place) : Type 0 where
  pub thieves : Each (λ place.
      Each (λ thief. get_elem? (queues_of places) thief.0 ≡ some thief.1) place.thieves) places
  pub shares : (k : ℕ) (place : Place) → get_elem? places k ≡ some place →
      place.shares + lent k places ≡ queue_shares
