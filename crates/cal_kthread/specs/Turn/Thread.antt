-- What a contract sees of a kernel thread.
use Rattle.std.specs.Prelude.{◌≡◌, ℕ, ◌<◌, ◌≤◌, Option, None, IfSome, List, [], length}
use Rattle.cal_command.specs.Rings.{TakerView}
use Rattle.cal_signal.specs.Ends.{PublisherView}
use Rattle.cal_signal.specs.Pages.{last_published}
use Rattle.cal_signal.specs.declared.record.Record.{Record}
use Rattle.cal_signal.specs.declared.record.TheConstants.{MOST_MISSES}
use Rattle.cal_machine.specs.declared.command.Command.{Command}
use Rattle.cal_machine.specs.declared.machine.TheConstants.{MOST_CORES}
use Rattle.cal_kthread.specs.Queue.Rule.{queue_shares}
use Rattle.cal_kthread.specs.declared.turn.current.Current.{Current}
use Rattle.cal_kthread.specs.declared.journal.entry.Entry.{Entry}
use Rattle.cal_kthread.specs.declared.queue.waiting.Waiting.{Waiting}
use Rattle.cal_kthread.specs.declared.turn.sources.Source.{Source}
use Rattle.cal_kthread.specs.Queue.{QueueView}

-- a kernel thread, as contracts see it
pub record ThreadView : Type 0 where
  -- its end of its page, of its ring and of its queue
  pub publisher : PublisherView
  pub taker : TakerView
  pub queue : QueueView
  -- the queues that it steals from
  pub sources : List Source
  -- the core that it is on
  pub core : Option ℕ
  -- the request that it serves
  pub current : Option Current
  -- the one that comes next
  pub front : Option Waiting
  -- its count of misses
  pub misses : ℕ

-- the same with its number and what it did so far
pub record KernelView : Type 0 where
  pub number : ℕ
  pub journal : List Entry
  pub thread : ThreadView

-- what its fields keep: the count is that of the commands taken, a core is below MOST_CORES, the
-- misses stop at MOST_MISSES, and the last record has no more commands and misses than these
pub record IsThread (count : ℕ) (commands : List Command) (core : Option ℕ) (misses : ℕ)
    (published : List Record) : Type 0 where
  pub taken : count ≡ length commands
  pub number : IfSome core (λ c. c < MOST_CORES)
  pub limit : misses ≤ MOST_MISSES
  pub shown_taken : (last_published published).taken ≤ count
  pub shown_misses : (last_published published).misses ≤ misses

-- it did nothing yet: its lists are empty, its queue has all of its shares, and it is off any core
pub record IsFresh (k : KernelView) : Type 0 where
  pub journal : k.journal ≡ []
  pub published : k.thread.publisher.published ≡ []
  pub taken : k.thread.taker.taken ≡ []
  pub shares : k.thread.queue.shares ≡ queue_shares
  pub pushed : k.thread.queue.pushed ≡ []
  pub had : k.thread.queue.had ≡ []
  pub handed : k.thread.queue.handed ≡ []
  pub sources : k.thread.sources ≡ []
  pub core : k.thread.core ≡ None
  pub current : k.thread.current ≡ None
  pub front : k.thread.front ≡ None
  pub misses : k.thread.misses ≡ 0
