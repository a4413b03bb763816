-- A turn keeps its thread's place in its team, its page and its ring: it changes no shares and no
-- thieves.
use Rattle.cal_kthread.proofs.Common.{◌≡◌, ℕ, zero, suc, Bool, true, false, Option, Some, None, List, [], ◌∷◌, map, sym, refl, ap, ◌∙◌, subst, Command, Request, RingId, TakerView, PublisherView, Current, Source, Waiting, QueueId, QueueView, IsTeam, Place, place_of, thief_place, TurnOnAllIsTurn, TurnOnKeepsPlace, core_in_turn, does_work, provided_if, worked_if, turned_if, ThreadView, KernelView, Answers, arrived, taken, robbed, provided, worked_on, fronted}
use Rattle.cal_kthread.specs.Team.Turns.{TurnKeepsPlace, SamePlaceKeepsTeam}
use Rattle.cal_kthread.proofs.ListSums.{map-set-like}

-- a thief that stole is at the same queue
robbed-places : (vs : List Source) (place : ℕ) (w : Waiting) → map thief_place (robbed vs place w) ≡ map thief_place vs
robbed-places [] place w = refl
robbed-places (v ∷ vs) zero w = refl
robbed-places (v ∷ vs) (suc place) w = ap (λ (ts : List (ℕ × QueueId)). thief_place v ∷ ts) (robbed-places vs place w)

-- what no step before the publication changes
abbrev pub Kept : Type 0
Kept = Place × PublisherView × RingId

abbrev pub kept_of : ThreadView → Kept
kept_of t = (place_of t, t.publisher, t.taker.ring)

arrives : (now : ℕ) (request : Option Request) (t : ThreadView) → kept_of (arrived now request t).0 ≡ kept_of t
arrives now None t = refl
arrives now (Some request) t = refl

takes : (now : ℕ) (command : Option Command) (t : ThreadView) → kept_of (taken now command t).0 ≡ kept_of t
takes now None t = refl
takes now (Some command) t = refl

module _ (publisher : PublisherView) (taker : TakerView) (queue : QueueView) (sources : List Source) (misses : ℕ) where
  abbrev thread : Option ℕ → Option Current → Option Waiting → ThreadView
  thread core current front = record { publisher = publisher; taker = taker; queue = queue; sources = sources; core = core; current = current; front = front; misses = misses }

  provides-at : (now : ℕ) (core : Option ℕ) (current : Option Current) (front answer : Option Waiting) (theft : Option (ℕ × Waiting))
      → kept_of (provided now answer theft (thread core current front)).0 ≡ kept_of (thread core current front)
  provides-at now None current front answer theft = refl
  provides-at now (Some core) (Some current) front answer theft = refl
  provides-at now (Some core) None (Some next) answer theft = refl
  provides-at now (Some core) None None (Some w) theft = refl
  provides-at now (Some core) None None None None = refl
  provides-at now (Some core) None None None (Some theft) =
      ap (λ (ts : List (ℕ × QueueId)). let p : Place = record { queue = queue.queue; shares = queue.shares; thieves = ts } in (p, publisher, taker.ring)) (robbed-places sources theft.0 theft.1)

  fronts-at : (core : Option ℕ) (current : Option Current) (front answer : Option Waiting) → kept_of (fronted answer (thread core current front)) ≡ kept_of (thread core current front)
  fronts-at core current (Some next) answer = refl
  fronts-at core current None None = refl
  fronts-at core current None (Some w) = refl

provides : (now : ℕ) (answer : Option Waiting) (theft : Option (ℕ × Waiting)) (t : ThreadView) → kept_of (provided now answer theft t).0 ≡ kept_of t
provides now answer theft t = provides-at t.publisher t.taker t.queue t.sources t.misses now t.core t.current t.front answer theft

works-on : (core : Option ℕ) (current : Option Current) (t : ThreadView) → kept_of (worked_on core current t).0 ≡ kept_of t
works-on None current t = refl
works-on (Some core) None t = refl
works-on (Some core) (Some current) t = refl

provides-if : (does : Bool) (now : ℕ) (answer : Option Waiting) (theft : Option (ℕ × Waiting)) (t : ThreadView) → kept_of (provided_if does now answer theft t).0 ≡ kept_of t
provides-if true now answer theft t = provides now answer theft t
provides-if false now answer theft t = refl

works-if : (does : Bool) (t : ThreadView) → kept_of (worked_if does t).0 ≡ kept_of t
works-if true t = works-on t.core t.current t
works-if false t = refl

fronts : (answer : Option Waiting) (t : ThreadView) → kept_of (fronted answer t) ≡ kept_of t
fronts answer t = fronts-at t.publisher t.taker t.queue t.sources t.misses t.core t.current t.front answer

-- the thread as it is before its turn publishes, where the third step is done and where it is not
abbrev pub unpublished : Bool → ℕ → Option Request → Answers → ThreadView → ThreadView
unpublished does now request answers t = fronted answers.front (worked_if does (provided_if does now answers.own answers.theft
    (taken now answers.command (arrived now request t).0).0).0).0

pub kept : (does : Bool) (now : ℕ) (request : Option Request) (answers : Answers) (t : ThreadView) → kept_of (unpublished does now request answers t) ≡ kept_of t
kept does now request answers t =
    let one = arrived now request t in
    let two = taken now answers.command one.0 in
    let three = provided_if does now answers.own answers.theft two.0 in
    let four = worked_if does three.0 in
    fronts answers.front four.0 ∙ works-if does three.0 ∙ provides-if does now answers.own answers.theft two.0
    ∙ takes now answers.command one.0 ∙ arrives now request t

pub keeps-place-if : (does : Bool) (now : ℕ) (request : Option Request) (answers : Answers) (k : KernelView)
    → place_of (turned_if does now request answers k).thread ≡ place_of k.thread
keeps-place-if does now request answers k = ap (λ (z : Kept). z.0) (kept does now request answers k.thread)

pub keeps-page : (does : Bool) (now : ℕ) (request : Option Request) (answers : Answers) (k : KernelView)
    → (turned_if does now request answers k).thread.publisher.page ≡ k.thread.publisher.page
keeps-page does now request answers k = ap (λ (z : Kept). z.1.page) (kept does now request answers k.thread)

pub keeps-ring : (does : Bool) (now : ℕ) (request : Option Request) (answers : Answers) (k : KernelView)
    → (turned_if does now request answers k).thread.taker.ring ≡ k.thread.taker.ring
keeps-ring does now request answers k = ap (λ (z : Kept). z.2) (kept does now request answers k.thread)

pub keeps-place : TurnKeepsPlace
keeps-place = keeps-place-if true

pub on-keeps-place : TurnOnKeepsPlace
on-keeps-place works now request answers k = keeps-place-if (does_work works (core_in_turn now request answers k)) now request answers k

-- a thread that works on all cores does its third step wherever it is
works-everywhere : (works : ℕ → Bool) → ((core : ℕ) → works core ≡ true) → (core : Option ℕ) → does_work works core ≡ true
works-everywhere works all None = refl
works-everywhere works all (Some core) = all core

pub on-all-is-turn : TurnOnAllIsTurn
on-all-is-turn works now request answers k all =
    ap (λ (does : Bool). turned_if does now request answers k) (works-everywhere works all (core_in_turn now request answers k))

pub keeps-team : SamePlaceKeepsTeam
keeps-team threads k before after team at same = subst IsTeam (sym (map-set-like (λ (t : KernelView). place_of t.thread) threads k before after at same)) team
