-- Lists each of whose members is so.
use Rattle.cal_trace.proofs.Common.{◌≡◌, ℕ, zero, suc, List, [], ◌∷◌, ◌++◌, Some, slice_get, subst, refl, Each}

-- the first of a list, and the others
pub each_first : {X : Type 0} (P : X → Type 0) (x : X) (xs : List X) → Each P (x ∷ xs) → P x
each_first P x xs h = h.at 0 x refl

pub each_other : {X : Type 0} (P : X → Type 0) (x : X) (xs : List X) → Each P (x ∷ xs) → Each P xs
each_other P x xs h = record { at = λ k y e. h.at (suc k) y e }

-- lists with one more member
cons_at : {X : Type 0} (P : X → Type 0) (x : X) (xs : List X) → P x → Each P xs → (k : ℕ) (y : X) → slice_get (x ∷ xs) k ≡ Some y → P y
cons_at P x xs p h zero y e = let same : x ≡ y = cc in subst P same p
cons_at P x xs p h (suc k) y e = h.at k y e

pub each_cons : {X : Type 0} (P : X → Type 0) (x : X) (xs : List X) → P x → Each P xs → Each P (x ∷ xs)
each_cons P x xs p h = record { at = cons_at P x xs p h }

pub each_none : {X : Type 0} (P : X → Type 0) → Each P []
each_none P = record { at = λ k y e. cc }

pub each_push : {X : Type 0} (P : X → Type 0) (xs : List X) (x : X) → Each P xs → P x → Each P (xs ++ x ∷ [])
each_push P [] x h p = record { at = cons_at P x [] p (each_none P) }
each_push P (y ∷ xs) x h p = record { at = cons_at P y (xs ++ x ∷ []) (each_first P y xs h) (each_push P xs x (each_other P y xs h) p) }
