-- What is so of the end of a kernel thread.
use Rattle.std.specs.Prelude.{◌≡◌, []}
use Rattle.cal_kthread.specs.End.Account.{KeepsItsWork}
use Rattle.cal_kthread.specs.End.Rest.{EndView}
use Rattle.cal_kthread.specs.Journal.{IsJournal, commands_of, records_of}
use Rattle.cal_kthread.specs.Team.{place_of, place_of_rest}
use Rattle.cal_kthread.specs.Turn.Agreement.{held}
use Rattle.cal_kthread.specs.Turn.Thread.{KernelView}

-- it is the end of this thread
pub record IsEndOf (thread : KernelView) (e : EndView) : Type 0 where
  -- its number, its journal, and its ends of its page and its ring are the thread's
  pub number : e.number ≡ thread.number
  pub journal : e.journal ≡ thread.journal
  pub ends : (e.publisher ≡ thread.thread.publisher) × (e.taker ≡ thread.thread.taker)
  -- the journal is one, of what the page shows and of the commands that were taken
  pub is_journal : IsJournal e.journal
  pub page : records_of e.journal ≡ e.publisher.published
  pub ring : commands_of e.journal ≡ e.taker.taken
  -- it has the thread's work, of which it handed nothing out
  pub rest : e.rest ≡ record {
    queue = thread.thread.queue;
    sources = thread.thread.sources;
    held = held thread.thread;
    left = [];
  }
  pub place : place_of_rest e.rest ≡ place_of thread.thread
  pub work : KeepsItsWork e
