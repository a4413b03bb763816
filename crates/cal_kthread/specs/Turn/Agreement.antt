-- When a kernel thread and its journal agree.
use Rattle.std.specs.Prelude.{◌≡◌, ℕ, ◌+◌, List, ◌++◌, length, map, option_map, option_to_list}
use Rattle.cal_kthread.specs.declared.turn.current.Current.{Current}
use Rattle.cal_kthread.specs.declared.journal.entry.Entry.{Entry}
use Rattle.cal_kthread.specs.declared.turn.sources.Source.{Source}
use Rattle.cal_kthread.specs.declared.queue.waiting.Waiting.{Waiting}
use Rattle.cal_kthread.specs.Journal.{State, IsJournal, state_after, records_of}
use Rattle.cal_kthread.specs.Journal.{commands_of, arrivals_of, served_of}
use Rattle.cal_kthread.specs.Queue.Rule.{weigh}
use Rattle.cal_kthread.specs.Turn.Thread.{ThreadView}

-- how many commands it has taken, and its core
abbrev pub state_of : ThreadView → State
state_of t = record { taken = length t.taker.taken; core = t.core }

-- the requests that it has in hand: the current one, and the one that comes next
abbrev pub held : ThreadView → List Waiting
held t = option_to_list (option_map (λ (c : Current). c.waiting) t.current)
    ++ option_to_list t.front

-- what it took from its own queue, and what it stole, by weight
abbrev pub had_weight : (Waiting → ℕ) → ThreadView → ℕ
had_weight h t = weigh h t.queue.had + weigh (λ (v : Source). weigh h v.thief.had) t.sources

-- what it took and stole are, each as often, requests that it served, which the journal names, and
-- those in hand
abbrev pub HasServed : List Entry → ThreadView → Type 0
HasServed journal t = (served : List Waiting)
    × (served_of journal ≡ map (λ (w : Waiting). w.request.id) served)
    × ((h : Waiting → ℕ) → had_weight h t ≡ weigh h served + weigh h (held t))

-- the journal is one, and says of the thread what is so
pub record IsJournalOf (journal : List Entry) (t : ThreadView) : Type 0 where
  pub is_journal : IsJournal journal
  -- its core and its request
  pub state : state_after journal ≡ state_of t
  -- the records on its page
  pub records : records_of journal ≡ t.publisher.published
  -- the commands taken from its ring
  pub commands : commands_of journal ≡ t.taker.taken
  -- the requests that were pushed into its queue
  pub arrivals : arrivals_of journal ≡ map (λ (w : Waiting). w.request) t.queue.pushed
  -- and what it served
  pub served : HasServed journal t
