-- Which request comes next to a thread.
use Rattle.cal_run.proofs.Common.{◌≡◌, ℕ, ◌<◌, ◌≤◌, ◌⊎◌, inl, inr, ◌+◌, zero, suc, Bool, true, false, List, [], ◌∷◌, length, Some, None, Option, refl, sym, ap, ◌∙◌, arith, subst, ⊎_elim, ◌&&◌, get_or, nat_lt, if◌then◌else◌, ◌==◌, slice_get, filter_map, cons_option, nat_tests, cases_lt, eqb-true, ltb-true, slice_get_within, slice_get-get_or, get_or_from_slice_get, EachLater, ComesBefore, Arrival, coming_to, request_at, IsBefore, IsFrom, IsNext}
use Rattle.std.specs.List.Sorted.{IsNonDecreasingBy, IsPartitionPoint}

-- what h gives first is what it gives of the member at place n, where it gives nothing of those before
first_given : {X Y : Type 0} (h : X → Option Y) (xs : List X) (n : ℕ) (x : X) (y : Y) →
    ((i : ℕ) (z : X) → i < n → slice_get xs i ≡ Some z → h z ≡ None) →
    slice_get xs n ≡ Some x → h x ≡ Some y → slice_get (filter_map h xs) 0 ≡ Some y
first_given h [] n x y none at gives = cc
first_given {X} {Y} h (z ∷ zs) zero x y none at gives = here (h z) (let e : h z ≡ h x = cc in e ∙ gives)
  where
    here : (o : Option Y) → o ≡ Some y → slice_get (cons_option o (filter_map h zs)) 0 ≡ Some y
    here o e = subst (λ p. slice_get (cons_option p (filter_map h zs)) 0 ≡ Some y) (sym e) refl
first_given h (z ∷ zs) (suc n) x y none at gives =
    ap (λ o. slice_get (cons_option o (filter_map h zs)) 0) (none zero z (omega arith) refl)
    ∙ first_given h zs n x y (λ i w low is. none (suc i) w (omega arith) is) at gives

-- and where h gives nothing of any member it gives nothing at all
none_given : {X Y : Type 0} (h : X → Option Y) (xs : List X) →
    ((i : ℕ) (z : X) → slice_get xs i ≡ Some z → h z ≡ None) → filter_map h xs ≡ []
none_given h [] none = refl
none_given h (z ∷ zs) none =
    ap (λ o. cons_option o (filter_map h zs)) (none zero z refl) ∙ none_given h zs (λ i w is. none (suc i) w is)

-- a request for another turn is none for this one
pub other_comes : (k j : ℕ) (a : Arrival) → (a.thread == k) ≡ false ⊎ (a.turn == j) ≡ false → coming_to k j a ≡ None
other_comes k j a other = ap (λ b. if b then Some a.request else None) (both (a.thread == k) (a.turn == j) other)
  where
    both : (b c : Bool) → (b ≡ false) ⊎ (c ≡ false) → (b && c) ≡ false
    both true true e = ⊎_elim (λ p. cc) (λ p. cc) e
    both true false e = refl
    both false c e = refl

none_before : (k j : ℕ) (a : Arrival) → IsBefore k j a → coming_to k j a ≡ None
none_before k j a before = other_comes k j a
    (⊎_elim (λ less. inl (grind (arith, nat_tests))) (λ same. inr (let low = same.1 in grind (arith, nat_tests))) before)

-- a request after one that does not come before this turn comes after the turn
none_after : (k j : ℕ) (a b : Arrival) → IsFrom k j a → ComesBefore a b → coming_to k j b ≡ None
none_after k j a b from later = other_comes k j b
    (⊎_elim
    (λ more. ⊎_elim (λ less. inl (grind (arith, nat_tests))) (λ same. inl (let e = same.0 in grind (arith, nat_tests))) later)
    (λ own. let e = own.0 in let low = own.1 in
    ⊎_elim (λ less. inl (grind (arith, nat_tests))) (λ same. inr (let high = same.1 in grind (arith, nat_tests))) later)
    from)

-- the request for this turn stands next
pub comes_next : (given : List Arrival) (k j n : ℕ) (a : Arrival) → IsNext given k j n → slice_get given n ≡ Some a →
    a.thread ≡ k → a.turn ≡ j → request_at given k j ≡ Some a.request
comes_next given k j n a next at its_thread its_turn =
    first_given (coming_to k j) given n a a.request (λ i z low is. none_before k j z (next.before i z low is)) at
    (its (a.thread == k) (a.turn == j) (grind (arith, nat_tests)) (grind (arith, nat_tests)))
  where
    its : (b c : Bool) → b ≡ true → c ≡ true → (if b && c then Some a.request else None) ≡ Some a.request
    its true true e f = refl
    its false c e f = cc
    its true false e f = cc

-- one number is less than another, or it is that one, or greater
pub three : (m n : ℕ) → (m < n) ⊎ (m ≡ n) ⊎ (n < m)
three m n = ⊎_elim (λ low. inl low)
    (λ high. inr (⊎_elim (λ more. inr more) (λ less. inl (omega arith)) (cases_lt n m))) (cases_lt m n)

-- another request stands next, and none comes for this turn
pub other_is_next : (given : List Arrival) (k j n : ℕ) (a : Arrival) → IsNext given k j n → EachLater ComesBefore given →
    slice_get given n ≡ Some a → coming_to k j a ≡ None → request_at given k j ≡ None
other_is_next given k j n a next rising at other =
    ap (λ ys. slice_get ys 0) (none_given (coming_to k j) given (λ i z is. place i z is (three i n)))
  where
    place : (i : ℕ) (z : Arrival) → slice_get given i ≡ Some z → (i < n) ⊎ (i ≡ n) ⊎ (n < i) → coming_to k j z ≡ None
    place i z is where_it_is = ⊎_elim (λ low. none_before k j z (next.before i z low is))
        (λ rest. ⊎_elim
        (λ same. let e : Some a ≡ Some z = sym at ∙ ap (slice_get given) (sym same) ∙ is in let f : a ≡ z = cc in subst (λ w. coming_to k j w ≡ None) f other)
        (λ high. none_after k j a z (next.others n a (omega arith) at) (rising.at n i a z high at is)) rest)
        where_it_is

-- none is left, and so none comes for this turn
pub none_is_next : (given : List Arrival) (k j n : ℕ) → IsNext given k j n → length given ≤ n → request_at given k j ≡ None
none_is_next given k j n next end =
    ap (λ ys. slice_get ys 0) (none_given (coming_to k j) given
    (λ i z is. none_before k j z (next.before i z (let low = slice_get_within given i z is in omega arith) is)))

-- a request that is not both for this thread and for this turn is none for it
pub is_other : (k j : ℕ) (a : Arrival) → (a.thread ≡ k → ⊥) ⊎ (a.turn ≡ j → ⊥) → coming_to k j a ≡ None
is_other k j a apart = go (a.thread == k) (a.turn == j) refl refl
  where
    go : (b c : Bool) → (a.thread == k) ≡ b → (a.turn == j) ≡ c → coming_to k j a ≡ None
    go true true e f = ⊎_elim (λ differ. absurd (differ (eqb-true a.thread k e))) (λ differ. absurd (differ (eqb-true a.turn j f))) apart
    go true false e f = other_comes k j a (inr f)
    go false c e f = other_comes k j a (inl e)

-- what comes before a turn comes before the next one
still_before : (k j : ℕ) (a : Arrival) → IsBefore k j a → IsBefore k (j + 1) a
still_before k j a (inl less) = inl less
still_before k j a (inr same) = let low = same.1 in inr (same.0, omega (arith, low))

-- what comes after one that does not come before a turn does not come before the next turn
from_later : (k j : ℕ) (a b : Arrival) → IsFrom k j a → ComesBefore a b → IsFrom k (j + 1) b
from_later k j a b (inl more) (inl less) = inl (omega (arith, more, less))
from_later k j a b (inl more) (inr same) = let e = same.0 in inl (omega (arith, more, e))
from_later k j a b (inr own) (inl less) = let e = own.0 in inl (omega (arith, e, less))
from_later k j a b (inr own) (inr same) = let e = own.0 in let low = own.1 in let f = same.0 in let high = same.1 in inr (omega (arith, e, f), omega (arith, low, high))

-- the request for this turn came, and the one after it is next
pub next_after_it : (given : List Arrival) (k j n : ℕ) (a : Arrival) → IsNext given k j n → EachLater ComesBefore given →
    slice_get given n ≡ Some a → a.thread ≡ k → a.turn ≡ j → IsNext given k (j + 1) (n + 1)
next_after_it given k j n a next rising at its_thread its_turn = record {
  before = λ i b low is. before i b is (three i n) low;
  others = λ i b high is. from_later k j a b (next.others n a (omega arith) at) (rising.at n i a b (omega (arith, high)) at is);
}
  where
    before : (i : ℕ) (b : Arrival) → slice_get given i ≡ Some b → (i < n) ⊎ (i ≡ n) ⊎ (n < i) → i < n + 1 → IsBefore k (j + 1) b
    before i b is (inl less) low = still_before k j b (next.before i b less is)
    before i b is (inr (inl same)) low =
        let e : Some a ≡ Some b = sym at ∙ ap (slice_get given) (sym same) ∙ is in
        let f : a ≡ b = cc in
        inr (ap (λ (x : Arrival). x.thread) (sym f) ∙ its_thread, (let g = ap (λ (x : Arrival). x.turn) f in omega (arith, g, its_turn)))
    before i b is (inr (inr more)) low = absurd (omega (arith, low, more))

-- none came, and the same one is next
pub next_after_other : (given : List Arrival) (k j n : ℕ) (a : Arrival) → IsNext given k j n → EachLater ComesBefore given →
    slice_get given n ≡ Some a → (a.thread ≡ k → ⊥) ⊎ (a.turn ≡ j → ⊥) → IsNext given k (j + 1) n
next_after_other given k j n a next rising at apart = record {
  before = λ i b low is. still_before k j b (next.before i b low is);
  others = λ i b high is. others i b is (three i n) high;
}
  where
    later : IsFrom k j a → IsFrom k (j + 1) a
    later (inl more) = inl more
    later (inr own) = turn (three a.turn j)
      where
        turn : (a.turn < j) ⊎ (a.turn ≡ j) ⊎ (j < a.turn) → IsFrom k (j + 1) a
        turn (inl less) = let low = own.1 in absurd (omega (arith, less, low))
        turn (inr (inl same)) = ⊎_elim (λ differ. absurd (differ own.0)) (λ differ. absurd (differ same)) apart
        turn (inr (inr more)) = inr (own.0, omega (arith, more))

    others : (i : ℕ) (b : Arrival) → slice_get given i ≡ Some b → (i < n) ⊎ (i ≡ n) ⊎ (n < i) → n ≤ i → IsFrom k (j + 1) b
    others i b is (inl less) high = absurd (omega (arith, less, high))
    others i b is (inr (inl same)) high =
        let e : Some a ≡ Some b = sym at ∙ ap (slice_get given) (sym same) ∙ is in
        let f : a ≡ b = cc in
        subst (IsFrom k (j + 1)) f (later (next.others n a (omega arith) at))
    others i b is (inr (inr more)) high = from_later k j a b (next.others n a (omega arith) at) (rising.at n i a b more at is)

-- all came
pub next_after_all : (given : List Arrival) (k j n : ℕ) → IsNext given k j n → length given ≤ n → IsNext given k (j + 1) n
next_after_all given k j n next end = record {
  before = λ i b low is. still_before k j b (next.before i b low is);
  others = λ i b high is. absurd (let low = slice_get_within given i b is in omega (arith, low, high, end));
}

-- requests stand in the order of their threads
pub threads_rise : (given : List Arrival) → EachLater ComesBefore given → IsNonDecreasingBy (λ (a : Arrival). a.thread) given
threads_rise given rising i j d le within = go (cases_lt i j)
  where
    rise : (a b : Arrival) → ComesBefore a b → a.thread ≤ b.thread
    rise a b (inl less) = omega (arith, less)
    rise a b (inr same) = let e = same.0 in omega (arith, e)

    go : (i < j) ⊎ (j ≤ i) → (get_or given i d).thread ≤ (get_or given j d).thread
    go (inl less) = rise (get_or given i d) (get_or given j d)
        (rising.at i j (get_or given i d) (get_or given j d) less (slice_get-get_or given i d (omega (arith, less, within))) (slice_get-get_or given j d within))
    go (inr more) = let same : i ≡ j = omega (arith, le, more) in let e = ap (λ (n : ℕ). (get_or given n d).thread) same in omega (arith, e)

-- the place where the requests of earlier threads end is that of the first one
pub first_is_next : (given : List Arrival) (k n : ℕ) → IsPartitionPoint (λ (a : Arrival). nat_lt a.thread k ≡ true) (λ (a : Arrival). nat_lt a.thread k ≡ false) given n →
    IsNext given k 0 n
first_is_next given k n point = record {
  before = λ i a low is. inl (ltb-true a.thread k (ap (λ (b : Arrival). nat_lt b.thread k) (sym (get_or_from_slice_get given i a a is)) ∙ point.0 i a (omega arith) low));
  others = λ i a high is. from a (ap (λ (b : Arrival). nat_lt b.thread k) (sym (get_or_from_slice_get given i a a is)) ∙ point.1 i a high (slice_get_within given i a is)) (three k a.thread);
}
  where
    from : (a : Arrival) → nat_lt a.thread k ≡ false → (k < a.thread) ⊎ (k ≡ a.thread) ⊎ (a.thread < k) → IsFrom k 0 a
    from a past (inl less) = inl less
    from a past (inr (inl same)) = inr (sym same, omega arith)
    from a past (inr (inr more)) = absurd (grind (arith, nat_tests))

-- of another thread, or of the thread and another turn
pub apart_from : {A B C : Type 0} → A ⊎ (B × C) → A ⊎ C
apart_from (inl differ) = inl differ
apart_from (inr own) = inr own.1
