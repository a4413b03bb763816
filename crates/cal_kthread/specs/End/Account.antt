-- The account of a team's work: what arrived was served or handed out at the end, each once.
use Rattle.std.specs.Prelude.{◌≡◌, ℕ, ◌+◌, nat_eq, List, [], map, slice_index_or, slice_set}
use mathlib.Core.Option.{some}
use lib.ListN.{get_elem?}
use Rattle.cal_machine.specs.declared.request.Request.{Request}
use Rattle.cal_kthread.specs.declared.journal.entry.Entry.{Entry}
use Rattle.cal_kthread.specs.declared.turn.sources.Source.{Source}
use Rattle.cal_kthread.specs.declared.queue.waiting.Waiting.{Waiting}
use Rattle.cal_kthread.specs.Journal.{arrivals_of, served_of}
use Rattle.cal_kthread.specs.Places.{Each, Somewhere, one_if}
use Rattle.cal_kthread.specs.Queue.Rule.{queue_shares, weigh, AllTaken}
use Rattle.cal_kthread.specs.End.Rest.{EndView, HandsOut}
use Rattle.cal_kthread.specs.Team.{IsTeam, place_of_rest}

-- how often a name stands in a list
abbrev pub times : ℕ → List ℕ → ℕ
times id = weigh (λ other. one_if (nat_eq other id))

abbrev pub names_of : List Request → List ℕ
names_of = map (λ request. request.id)

-- this request arrived, by one of the journals
abbrev pub HasArrived : List (List Entry) → Request → Type 0
HasArrived journals request = Somewhere (λ journal. Somewhere (λ arrival. arrival ≡ request)
    (arrivals_of journal)) journals

-- For each name, as many requests with it arrived, over all journals, as were served and as were
-- handed out at the end. Each request that was handed out is one that arrived, with its first
-- `work`.
pub record IsAccounted (journals : List (List Entry)) (lefts : List (List Request)) : Type 0 where
  pub each : (id : ℕ) → weigh (λ journal. times id (names_of (arrivals_of journal))) journals
      ≡ weigh (λ journal. times id (served_of journal)) journals + weigh (λ left.
      times id (names_of left)) lefts
  pub equal : Each (Each (HasArrived journals)) lefts

-- the requests that a thread handed out at its end
abbrev pub requests_of : List Waiting → List Request
requests_of = map (λ waiting. waiting.request)

abbrev pub waiting_names : List Waiting → List ℕ
waiting_names = map (λ waiting. waiting.request.id)

-- what a thread took from its own queue and what it stole, by weight
abbrev pub stolen_weight : (Waiting → ℕ) → List Source → ℕ
stolen_weight h sources = weigh (λ v. weigh h v.thief.had) sources

abbrev pub taken_of : (Waiting → ℕ) → EndView → ℕ
taken_of h e = weigh h e.rest.queue.had + stolen_weight h e.rest.sources

-- what it handed out from its queue; and what it still holds and all that it handed out
abbrev pub handed_of : (Waiting → ℕ) → EndView → ℕ
handed_of h e = weigh h e.rest.queue.handed

abbrev pub kept_of : (Waiting → ℕ) → EndView → ℕ
kept_of h e = weigh h e.rest.held + weigh h e.rest.left

-- What arrived at a thread went into its queue, and what it took from queues was served, or it
-- still holds it, or it handed it out.
pub record KeepsItsWork (e : EndView) : Type 0 where
  pub gone : List Waiting
  pub arrived : requests_of e.rest.queue.pushed ≡ arrivals_of e.journal
  pub served : waiting_names gone ≡ served_of e.journal
  pub kept : (h : Waiting → ℕ) → taken_of h e + handed_of h e ≡ weigh h gone + kept_of h e

-- The same of all threads together, when each queue's shares are with its own end.
pub record IsSettled (ends : List EndView) : Type 0 where
  pub gone : List Waiting
  pub arrived : Each (λ e. requests_of e.rest.queue.pushed ≡ arrivals_of e.journal) ends
  pub served : (p : ℕ → ℕ) → weigh p (waiting_names gone)
      ≡ weigh (λ e. weigh p (served_of e.journal)) ends
  pub shares : Each (λ e. e.rest.queue.shares ≡ queue_shares) ends
  pub kept : (h : Waiting → ℕ) →
      weigh (λ e. weigh h e.rest.queue.had + handed_of h e) ends
      ≡ weigh h gone + weigh (kept_of h) ends

-- its `left` answered None
pub record IsDrained (e : EndView) : Type 0 where
  pub held : e.rest.held ≡ []
  pub queue : AllTaken e.rest.queue.pushed e.rest.queue.had e.rest.queue.handed

-- an end except the shares and the thieves that it has: what the gathering of the shares leaves as
-- it was
abbrev pub stripped : EndView → EndView
stripped e = record e {
  rest = record e.rest {
    queue = record e.rest.queue { shares = 0; had = [] };
    sources = [];
  };
}

-- the thieves of the thread k
abbrev pub sources_at : ℕ → List EndView → List Source
sources_at k ends = slice_index_or (map (λ e. e.rest.sources) ends) k []

-- Shares and what was stolen moved between the ends of a team, and nothing else.
pub record Gathers (before after : List EndView) : Type 0 where
  pub team : IsTeam (map (λ e. place_of_rest e.rest) after)
  pub same : map stripped after ≡ map stripped before
  pub taken : (h : Waiting → ℕ) → weigh (taken_of h) after ≡ weigh (taken_of h) before

-- The law of handing out: when all shares are gathered, what one end hands out leaves the team
-- settled.
abbrev pub StaysSettled : Type 0
StaysSettled = (ends : List EndView) (k : ℕ) (e after : EndView) (waiting : Waiting) →
    IsSettled ends → get_elem? ends k ≡ some e
    → HandsOut waiting e.rest after.rest → after ≡ record e { rest = after.rest } →
    IsSettled (slice_set ends k after)

-- The law of the account: when all shares are gathered and each end's `left` answered None, the
-- account holds of the journals and of all that was handed out.
abbrev pub DrainedIsAccounted : Type 0
DrainedIsAccounted = (ends : List EndView) → IsSettled ends → Each IsDrained ends
    → IsAccounted (map (λ e. e.journal) ends) (map (λ e. requests_of e.rest.left) ends)
