-- Lists each of whose members stands so to each later one.
use Rattle.cal_trace.proofs.Common.{◌≡◌, ◌<◌, ◌≤◌, ◌-◌, ◌⊎◌, inl, inr, ℕ, zero, suc, List, [], ◌∷◌, ◌++◌, length, Some, slice_get, get_or, refl, arith, subst, cases_lt, last_in, EachLater, Each}
use Rattle.std.proofs.lemmas.Option.{slice_get_within, slice_get-get_or}
use Rattle.cal_trace.proofs.ListLemmas.EachOne.{each_none, each_first, each_other, each_push}

pub later_none : {X : Type 0} (P : X → X → Type 0) → EachLater P []
later_none P = record { at = λ i j x y lt e f. absurd (cc) }

later_at : {X : Type 0} (P : X → X → Type 0) (x : X) (xs : List X) → Each (P x) xs → EachLater P xs → (i j : ℕ) (y z : X) → i < j → slice_get (x ∷ xs) i ≡ Some y
    → slice_get (x ∷ xs) j ≡ Some z → P y z
later_at P x xs first other i zero y z lt e f = absurd (omega arith)
later_at P x xs first other zero (suc j) y z lt e f = let same : x ≡ y = cc in subst (λ y. P y z) same (first.at j z f)
later_at P x xs first other (suc i) (suc j) y z lt e f = other.at i j y z (omega arith) e f

later_cons : {X : Type 0} (P : X → X → Type 0) (x : X) (xs : List X) → Each (P x) xs → EachLater P xs → EachLater P (x ∷ xs)
later_cons P x xs first other = record { at = later_at P x xs first other }

pub later_first : {X : Type 0} (P : X → X → Type 0) (x : X) (xs : List X) → EachLater P (x ∷ xs) → Each (P x) xs
later_first P x xs h = record { at = λ k y e. h.at 0 (suc k) x y (omega arith) refl e }

pub later_other : {X : Type 0} (P : X → X → Type 0) (x : X) (xs : List X) → EachLater P (x ∷ xs) → EachLater P xs
later_other P x xs h = record { at = λ i j y z lt e f. h.at (suc i) (suc j) y z (omega arith) e f }

pub later_push : {X : Type 0} (P : X → X → Type 0) (xs : List X) (x : X) → EachLater P xs → Each (λ y. P y x) xs → EachLater P (xs ++ x ∷ [])
later_push P [] x h all = later_cons P x [] (each_none (P x)) (later_none P)
later_push P (y ∷ xs) x h all =
    later_cons P y (xs ++ x ∷ []) (each_push (P y) xs x (later_first P y xs h) (each_first (λ y. P y x) y xs all))
    (later_push P xs x (later_other P y xs h) (each_other (λ y. P y x) y xs all))

-- what holds of the last member, and of whatever stands so to one of which it holds, holds of all
pub each_to_last : {X : Type 0} (P : X → X → Type 0) (Q : X → Type 0) (xs : List X) → EachLater P xs → ((y z : X) → P y z → Q z → Q y)
    → ((z : X) → last_in xs ≡ Some z → Q z) → Each Q xs
each_to_last {X = X} P Q xs h back last = record { at = λ k y e. go k y e (cases_lt k (length xs - 1)) }
  where
    go : (k : ℕ) (y : X) → slice_get xs k ≡ Some y → (k < length xs - 1) ⊎ (length xs - 1 ≤ k) → Q y
    go k y e (inl lt) =
        let z = get_or xs (length xs - 1) y in
        let is : last_in xs ≡ Some z = slice_get-get_or xs (length xs - 1) y (omega arith) in
        back y z (h.at k (length xs - 1) y z lt e is) (last z is)
    go k y e (inr le) =
        let within = slice_get_within xs k y e in
        let same : k ≡ length xs - 1 = omega (arith, within, le) in
        last y (subst (λ n. slice_get xs n ≡ Some y) same e)
