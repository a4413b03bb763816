-- What a contract sees of a kernel thread's work when its turns are over.
use Rattle.std.specs.Prelude.{◌≡◌, ℕ, ◌+◌, ◌-◌, Option, None, IfSome, List, [], ◌∷◌, ◌++◌, length}
use Rattle.cal_command.specs.Rings.{TakerView}
use Rattle.cal_signal.specs.Ends.{PublisherView}
use Rattle.cal_kthread.specs.declared.journal.entry.Entry.{Entry}
use Rattle.cal_kthread.specs.declared.queue.waiting.Waiting.{Waiting}
use Rattle.cal_kthread.specs.declared.turn.sources.Source.{Source}
use Rattle.cal_kthread.specs.Queue.{QueueView}

-- its queue, its thieves, the requests that it holds outside the queue (the current one before the
-- front), and what was handed out so far
pub record RestView : Type 0 where
  pub queue : QueueView
  pub sources : List Source
  pub held : List Waiting
  pub left : List Waiting

-- what a kernel thread came to: its number, what it did, its ends of its page and its ring, and the
-- rest of its work
pub record EndView : Type 0 where
  pub number : ℕ
  pub journal : List Entry
  pub publisher : PublisherView
  pub taker : TakerView
  pub rest : RestView

-- the current request is handed out before the front, and the front before the queue
pub record IsInOrder (current front current_out front_out : Option Waiting)
    (handed : List Waiting) : Type 0 where
  pub current_first : IfSome current (λ _. (current_out ≡ None) × (front_out ≡ None)
      × (handed ≡ []))
  pub front_next : IfSome front (λ _. (front_out ≡ None) × (handed ≡ []))

-- This request is handed out: the first of those held, else one from the queue.
abbrev pub HandsOutOf : List Waiting → Waiting → RestView → RestView → Type 0
HandsOutOf [] waiting before after =
    after ≡ record before {
      queue = record before.queue {
        handed = before.queue.handed
            ++ waiting ∷ [];
      };
      left = before.left ++ waiting ∷ [];
    }
HandsOutOf (first ∷ others) waiting before after =
    (waiting ≡ first) × (after ≡ record before {
      held = others;
      left = before.left ++ waiting ∷ [];
    })

abbrev pub HandsOut : Waiting → RestView → RestView → Type 0
HandsOut waiting before after = HandsOutOf before.held waiting before after

-- how many requests there are still to hand out, once all shares of the queue are gathered: those
-- held, and of those that came into the queue the ones that were neither taken nor handed out
abbrev pub to_hand_out : RestView → ℕ
to_hand_out r = length r.held + (length
    r.queue.pushed - (length r.queue.had + length r.queue.handed))
