-- What stands at a place of two lists end to end.
use Rattle.std.proofs.Common.{◌≡◌, ℕ, ◌+◌, ◌<◌, ◌⊎◌, zero, suc, List, [], ◌∷◌, ◌++◌, length}
use Rattle.std.proofs.Common.{Some, slice_get, refl, arith, inl, inr, ⊎_elim}

-- a member of the two is in the first or in the second
pub slice_get_parts : {X : Type 0} (xs ys : List X) (i : ℕ) (z : X) →
    slice_get (xs ++ ys) i ≡ Some z →
    (slice_get xs i ≡ Some z) ⊎ ((j : ℕ) × (i ≡ length xs + j) × (slice_get ys j ≡ Some z))
slice_get_parts [] ys i z e = inr (i, omega arith, e)
slice_get_parts (x ∷ xs) ys zero z e = inl e
slice_get_parts (x ∷ xs) ys (suc i) z e =
    ⊎_elim (λ l. inl l) (λ r. inr (r.0, (let same = r.1 in omega arith), r.2))
    (slice_get_parts xs ys i z e)

-- what is at a place of the first
pub slice_get_front : {X : Type 0} (xs ys : List X) (k : ℕ) → k < length xs →
    slice_get (xs ++ ys) k ≡ slice_get xs k
slice_get_front [] ys k lt = absurd (omega (arith, lt))
slice_get_front (x ∷ xs) ys zero lt = refl
slice_get_front (x ∷ xs) ys (suc k) lt = slice_get_front xs ys k (omega (arith, lt))

-- the place where the second begins
pub slice_get_seam : {X : Type 0} (xs : List X) (y : X) (ys : List X) →
    slice_get (xs ++ y ∷ ys) (length xs) ≡ Some y
slice_get_seam [] y ys = refl
slice_get_seam (x ∷ xs) y ys = slice_get_seam xs y ys

-- each place within a list has a member
pub slice_get_at : {X : Type 0} (xs : List X) (k : ℕ) → k < length xs →
    (x : X) × (slice_get xs k ≡ Some x)
slice_get_at [] k lt = absurd (omega arith)
slice_get_at (x ∷ xs) zero lt = (x, refl)
slice_get_at (x ∷ xs) (suc k) lt = slice_get_at xs k (omega arith)
