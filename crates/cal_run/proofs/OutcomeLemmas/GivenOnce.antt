-- How often each id arrives, over all journals: once where it is given, else never.
use Rattle.cal_run.proofs.Common.{◌≡◌, ℕ, ◌+◌, ◌<◌, ◌≤◌, ◌⊎◌, inl, inr, zero, suc, Bool, true, false, nat_eq, if◌then◌else◌, ◌&&◌, List, [], ◌∷◌, length, Option, Some, None, get_or, refl, sym, ap, subst, ◌∙◌, arith, ◌==◌, option_to_list, slice_get, filter_map, cons_option, eq-eqb, eqb-true, slice_get_within, slice_get-get_or, get_or_from_slice_get, Request, Entry, names_of, times, arrivals_of, AreTurns, Given, TurnsAddUp, journal_at, ComesBefore, Fits, Arrival, Arrivals, IsGiven, coming_to, request_at, turns_from, turns_given, IsFrom}
use Rattle.cal_kthread.specs.End.OnePlace.{arrived_times}
use Rattle.cal_kthread.specs.Places.{one_if}
use Rattle.cal_kthread.specs.Queue.Rule.{weigh}
use Rattle.cal_run.proofs.WorkersLemmas.NextRequest.{comes_next, three}
use Rattle.cal_run.proofs.WorkersLemmas.GivenTurns.{given_at}
use Rattle.cal_kthread.proofs.EndLemmas.OnePlace.{has}

module _ {T : Type 0} where
  -- a list whose members weigh nothing
  weightless : (f : T → ℕ) (xs : List T) → ((i : ℕ) (x : T) → slice_get xs i ≡ Some x → f x ≡ 0) → weigh f xs ≡ 0
  weightless f [] none = refl
  weightless f (x ∷ xs) none =
      let first = none zero x refl in
      let rest = weightless f xs (λ i y at. none (suc i) y at) in omega (arith, first, rest)

  -- and one with a single member that may weigh something
  single : (f : T → ℕ) (xs : List T) (k : ℕ) (x : T) → slice_get xs k ≡ Some x →
      ((i : ℕ) (y : T) → slice_get xs i ≡ Some y → (i ≡ k → ⊥) → f y ≡ 0) → weigh f xs ≡ f x
  single f [] k x at others = absurd (cc)
  single f (y ∷ ys) zero x at others =
      let same : y ≡ x = cc in
      let e = ap f same in
      let rest = weightless f ys (λ i z is. others (suc i) z is (λ s. absurd (omega (arith, s)))) in omega (arith, e, rest)
  single f (y ∷ ys) (suc k) x at others =
      let first = others zero y refl (λ s. absurd (omega (arith, s))) in
      let rest = single f ys k x at (λ i z is apart. others (suc i) z is (λ s. apart (omega (arith, s)))) in
      omega (arith, first, rest)

-- how many requests with this id come before a turn
abbrev asks : ℕ → Given → ℕ
asks id given = weigh (has id) (option_to_list given.1)

-- how often the id is among the requests that turns are given
names_weigh : (id : ℕ) (turns : List Given) →
    times id (names_of (filter_map (λ (given : Given). given.1) turns)) ≡ weigh (asks id) turns
names_weigh id [] = refl
names_weigh id (given ∷ turns) =
    let rest = names_weigh id turns in
    let here = first given.1 (filter_map (λ (g : Given). g.1) turns) in omega (arith, rest, here)
  where
    first : (o : Option Request) (requests : List Request) →
        times id (names_of (cons_option o requests)) ≡ weigh (has id) (option_to_list o) + times id (names_of requests)
    first None requests = omega arith
    first (Some r) requests = omega arith

-- a turn before which no request with this id comes
asks_none : (id : ℕ) (o : Option Request) → ((r : Request) → o ≡ Some r → r.id ≡ id → ⊥) → weigh (has id) (option_to_list o) ≡ 0
asks_none id None none = refl
asks_none id (Some r) none = go (nat_eq r.id id) refl
  where
    go : (b : Bool) → nat_eq r.id id ≡ b → one_if (nat_eq r.id id) + 0 ≡ 0
    go true e = absurd (none r refl (eqb-true r.id id e))
    go false e = let f : one_if (nat_eq r.id id) ≡ 0 = ap one_if e in omega (arith, f)

-- and one before which one does
asks_one : (id : ℕ) (o : Option Request) (r : Request) → o ≡ Some r → r.id ≡ id → weigh (has id) (option_to_list o) ≡ 1
asks_one id None r is named = absurd (cc)
asks_one id (Some s) r is named =
    let same : s ≡ r = cc in
    let its : s.id ≡ id = ap (λ (x : Request). x.id) same ∙ named in
    let e : one_if (nat_eq s.id id) ≡ 1 = ap one_if (eq-eqb s.id id its) in omega (arith, e)

-- the arrival whose request comes to thread k before its turn j
pub record Comes (requests : List Arrival) (k j : ℕ) (r : Request) : Type 0 where
  pub place : ℕ
  pub arrival : Arrival
  pub there : slice_get requests place ≡ Some arrival
  pub thread : arrival.thread ≡ k
  pub turn : arrival.turn ≡ j
  pub request : arrival.request ≡ r

comes_from : (requests : List Arrival) (k j : ℕ) (r : Request) → request_at requests k j ≡ Some r → Comes requests k j r
comes_from [] k j r at = absurd (cc)
comes_from (b ∷ bs) k j r at = go (b.thread == k) (b.turn == j) refl refl at (comes_from bs k j r)
  where
    later : Comes bs k j r → Comes (b ∷ bs) k j r
    later c = record { place = suc c.place; arrival = c.arrival; there = c.there; thread = c.thread; turn = c.turn; request = c.request }

    go : (t u : Bool) → (b.thread == k) ≡ t → (b.turn == j) ≡ u →
        slice_get (cons_option (if t && u then Some b.request else None) (filter_map (coming_to k j) bs)) 0 ≡ Some r →
        (slice_get (filter_map (coming_to k j) bs) 0 ≡ Some r → Comes bs k j r) → Comes (b ∷ bs) k j r
    go true true e f at rest = record {
      place = zero;
      arrival = b;
      there = refl;
      thread = eqb-true b.thread k e;
      turn = eqb-true b.turn j f;
      request = cc;
    }
    go true false e f at rest = later (rest at)
    go false u e f at rest = later (rest at)

-- what comes before a turn, of those from turn i on
given_there : (requests : List Arrival) (k i j : ℕ) (clocks : List ℕ) (given : Given) →
    slice_get (turns_from requests k i clocks) j ≡ Some given → given.1 ≡ request_at requests k (i + j)
given_there requests k i j [] given e = absurd (cc)
given_there requests k i zero (clock ∷ clocks) given e =
    let same : (clock, request_at requests k i) ≡ given = cc in
    let here : i ≡ i + 0 = omega arith in
    sym (ap (λ (g : Given). g.1) same) ∙ ap (λ (n : ℕ). request_at requests k n) here
given_there requests k i (suc j) (clock ∷ clocks) given e =
    let there : (i + 1) + j ≡ i + suc j = omega arith in
    given_there requests k (i + 1) j clocks given e ∙ ap (λ (n : ℕ). request_at requests k n) there

module _ (threads : ℕ) (arrivals : Arrivals) (fits : Fits threads arrivals) where
  -- two requests with one id are one
  one_of_id : (i j : ℕ) (a b : Arrival) → slice_get arrivals.requests i ≡ Some a → slice_get arrivals.requests j ≡ Some b →
      a.request.id ≡ b.request.id → a ≡ b
  one_of_id i j a b at is same = go (three i j)
    where
      go : (i < j) ⊎ (i ≡ j) ⊎ (j < i) → a ≡ b
      go (inl less) = absurd (fits.once.at i j a b less at is same)
      go (inr (inl e)) = let f : Some a ≡ Some b = sym at ∙ ap (slice_get arrivals.requests) e ∙ is in cc
      go (inr (inr more)) = absurd (fits.once.at j i b a more is at (sym same))

  -- the request of an arrival comes to its thread before its turn
  its_request : (i : ℕ) (a : Arrival) → slice_get arrivals.requests i ≡ Some a →
      request_at arrivals.requests a.thread a.turn ≡ Some a.request
  its_request i a at = comes_next arrivals.requests a.thread a.turn i a
      (record { before = λ n b less is. fits.rising.at n i b a less is at; others = λ n b le is. go n b le is (three i n) }) at refl refl
    where
      after : (b : Arrival) → ComesBefore a b → IsFrom a.thread a.turn b
      after b (inl less) = inl less
      after b (inr same) = let low = same.1 in inr (sym same.0, omega (arith, low))

      go : (n : ℕ) (b : Arrival) → i ≤ n → slice_get arrivals.requests n ≡ Some b → (i < n) ⊎ (i ≡ n) ⊎ (n < i) → IsFrom a.thread a.turn b
      go n b le is (inl less) = after b (fits.rising.at i n a b less at is)
      go n b le is (inr (inl e)) =
          let f : Some a ≡ Some b = sym at ∙ ap (slice_get arrivals.requests) e ∙ is in
          let same : a ≡ b = cc in
          subst (IsFrom a.thread a.turn) same (inr (refl, omega arith))
      go n b le is (inr (inr more)) = absurd (omega (arith, le, more))

  -- before a turn of which no arrival with this id says that it is its own, no request with the id comes
  none_here : (id k j : ℕ) (given : Given) → given.1 ≡ request_at arrivals.requests k j →
      ((i : ℕ) (b : Arrival) → slice_get arrivals.requests i ≡ Some b → b.request.id ≡ id → b.thread ≡ k → b.turn ≡ j → ⊥) →
      asks id given ≡ 0
  none_here id k j given same none = asks_none id given.1
      (λ r is named. let c = comes_from arrivals.requests k j r (sym same ∙ is) in
      none c.place c.arrival c.there (ap (λ (x : Request). x.id) c.request ∙ named) c.thread c.turn)

  -- the turns that a thread is given, and how often an id is among their requests
  abbrev turns_at : ℕ → List Given
  turns_at k = turns_given arrivals.requests arrivals.turns k

  -- a turn is the one at its place
  at_its_place : (k j : ℕ) (given : Given) → slice_get (turns_at k) j ≡ Some given → given.1 ≡ request_at arrivals.requests k j
  at_its_place k j given at =
      let zero_on : 0 + j ≡ j = omega arith in
      given_there arrivals.requests k 0 j arrivals.turns given at ∙ ap (λ (n : ℕ). request_at arrivals.requests k n) zero_on

  -- an id that is not given comes before no turn
  never_asked : (id k : ℕ) → (IsGiven arrivals.requests id → ⊥) → weigh (asks id) (turns_at k) ≡ 0
  never_asked id k other = weightless (asks id) (turns_at k)
      (λ j given at. none_here id k j given (at_its_place k j given at) (λ i b is named own its. other (i, b, is, named)))

  -- one that is given comes before no turn of another thread
  not_asked_elsewhere : (i : ℕ) (a : Arrival) (k : ℕ) → slice_get arrivals.requests i ≡ Some a → (k ≡ a.thread → ⊥) →
      weigh (asks a.request.id) (turns_at k) ≡ 0
  not_asked_elsewhere i a k at apart = weightless (asks a.request.id) (turns_at k)
      (λ j given is. none_here a.request.id k j given (at_its_place k j given is)
      (λ n b there named own its. apart (sym own ∙ ap (λ (x : Arrival). x.thread) (one_of_id n i b a there at named))))

  -- and before one turn of its own
  asked_once : (i : ℕ) (a : Arrival) → slice_get arrivals.requests i ≡ Some a → weigh (asks a.request.id) (turns_at a.thread) ≡ 1
  asked_once i a at =
      let now : ℕ = get_or arrivals.turns a.turn 0 in
      let given : Given = (now, request_at arrivals.requests a.thread a.turn) in
      let clock = slice_get-get_or arrivals.turns a.turn 0 (fits.each.at i a at).turn in
      let zero_on : 0 + a.turn ≡ a.turn = omega arith in
      let here : slice_get (turns_at a.thread) a.turn ≡ Some given =
      given_at arrivals.requests a.thread 0 a.turn now arrivals.turns clock
      ∙ ap (λ (n : ℕ). Some (now, request_at arrivals.requests a.thread n)) zero_on in
      single (asks a.request.id) (turns_at a.thread) a.turn given here others
      ∙ asks_one a.request.id given.1 a.request (its_request i a at) refl
    where
      others : (j : ℕ) (other : Given) → slice_get (turns_at a.thread) j ≡ Some other → (j ≡ a.turn → ⊥) → asks a.request.id other ≡ 0
      others j other is apart = none_here a.request.id a.thread j other (at_its_place a.thread j other is)
          (λ n b there named own its. apart (sym its ∙ ap (λ (x : Arrival). x.turn) (one_of_id n i b a there at named)))

  module _ (add_up : TurnsAddUp) (journals : List (List Entry)) (one_each : length journals ≡ threads)
      (made : (k : ℕ) → k < threads → AreTurns (turns_at k) [] (journal_at journals k)) where
    -- how often an id arrived by a journal
    abbrev times_in : ℕ → List Entry → ℕ
    times_in id journal = times id (names_of (arrivals_of journal))

    -- is how often it comes before a turn
    by_turns : (id k : ℕ) (journal : List Entry) → slice_get journals k ≡ Some journal → times_in id journal ≡ weigh (asks id) (turns_at k)
    by_turns id k journal at =
        let low = slice_get_within journals k journal at in
        let same : journal_at journals k ≡ journal = get_or_from_slice_get journals k journal [] at in
        let its : AreTurns (turns_at k) [] journal = subst (AreTurns (turns_at k) []) same (made k (omega (arith, low, one_each))) in
        ap (λ (requests : List Request). times id (names_of requests)) (add_up (turns_at k) journal its).arrivals ∙ names_weigh id (turns_at k)

    pub never_arrived : (id : ℕ) → (IsGiven arrivals.requests id → ⊥) → arrived_times id journals ≡ 0
    never_arrived id other = weightless (times_in id) journals (λ k journal at. by_turns id k journal at ∙ never_asked id k other)

    pub arrived_once : (id : ℕ) → IsGiven arrivals.requests id → arrived_times id journals ≡ 1
    arrived_once id is = subst (λ (n : ℕ). arrived_times n journals ≡ 1) is.3 (its is.0 is.1 is.2)
      where
        its : (i : ℕ) (a : Arrival) → slice_get arrivals.requests i ≡ Some a → arrived_times a.request.id journals ≡ 1
        its i a at =
            let low = (fits.each.at i a at).thread in
            let here = slice_get-get_or journals a.thread [] (omega (arith, low, one_each)) in
            single (times_in a.request.id) journals a.thread (get_or journals a.thread []) here
            (λ k journal there apart. by_turns a.request.id k journal there ∙ not_asked_elsewhere i a k at apart)
            ∙ by_turns a.request.id a.thread (get_or journals a.thread []) here ∙ asked_once i a at
