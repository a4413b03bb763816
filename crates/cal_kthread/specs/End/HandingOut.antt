-- The ends of a team hand out what their threads had left.
use Rattle.std.specs.Prelude.{◌≡◌, ℕ, ◌+◌, List, []}
use Rattle.cal_command.specs.Rings.{TakerView}
use Rattle.cal_machine.specs.declared.request.Request.{Request}
use Rattle.cal_signal.specs.Ends.{PublisherView}
use Rattle.cal_kthread.specs.End.Account.{requests_of}
use Rattle.cal_kthread.specs.Queue.Rule.{weigh}
use Rattle.cal_kthread.specs.End.Rest.{EndView, RestView}
use Rattle.cal_kthread.specs.Team.{place_of_rest}
use Rattle.cal_kthread.specs.declared.journal.entry.Entry.{Entry}
use Rattle.cal_kthread.specs.declared.queue.waiting.Waiting.{Waiting}

-- what a thread's turns came to: its number, what it did, and its ends of its page and its ring
pub record RunView : Type 0 where
  pub number : ℕ
  pub journal : List Entry
  pub publisher : PublisherView
  pub taker : TakerView

abbrev pub run_of : EndView → RunView
run_of e = record {
  number = e.number;
  journal = e.journal;
  publisher = e.publisher;
  taker = e.taker;
}

-- the requests that it handed out so far, in order
abbrev pub left_of : EndView → List Request
left_of e = requests_of e.rest.left

abbrev pub HandedOutNothing : EndView → Type 0
HandedOutNothing e = e.rest.left ≡ []

-- Some requests were handed out, and nothing else changed: what came out of the queue meanwhile,
-- what is held and what was handed out balance.
pub record HandsOutSome (before after : RestView) : Type 0 where
  pub place : place_of_rest after ≡ place_of_rest before
  pub sources : after.sources ≡ before.sources
  pub pushed : after.queue.pushed ≡ before.queue.pushed
  pub had : after.queue.had ≡ before.queue.had
  pub kept : (h : Waiting → ℕ) →
      weigh h after.queue.handed + (weigh h before.held + weigh h before.left)
      ≡ weigh h before.queue.handed + (weigh h after.held + weigh h after.left)
