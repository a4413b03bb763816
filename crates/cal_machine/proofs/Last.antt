-- A list with one member more at its end.
use Rattle.std.proofs.Common.{◌≡◌, ◌≢◌, ◌<◌, ℕ, zero, suc, List, [], ◌∷◌, ◌++◌, length, Some, slice_get, ◌⊎◌, inl, inr, refl, sym, ap, ◌∙◌, take, ◌+◌}
use Rattle.std.proofs.lemmas.Bool.Decides.{eqb_tells}
use Rattle.std.proofs.lemmas.Option.{slice_get_within, get_or_from_slice_get}
use Rattle.std.specs.Option.{unwrap_or}
use Rattle.std.proofs.lemmas.List.{take_more}

module _ {X : Type 0} where
  pub some_same : (a b : X) → Some a ≡ Some b → a ≡ b
  some_same a b e = ap (λ o. unwrap_or o a) e

  -- the last place has that member
  pub slice_get-last : (xs : List X) (x : X) → slice_get (xs ++ x ∷ []) (length xs) ≡ Some x
  slice_get-last [] x = refl
  slice_get-last (y ∷ xs) x = slice_get-last xs x

  -- every other place has what it had
  pub slice_get-other : (xs : List X) (x : X) (k : ℕ) → k ≢ length xs → slice_get (xs ++ x ∷ []) k ≡ slice_get xs k
  slice_get-other [] x zero ne = absurd (ne refl)
  slice_get-other [] x (suc k) ne = refl
  slice_get-other (y ∷ xs) x zero ne = refl
  slice_get-other (y ∷ xs) x (suc k) ne = slice_get-other xs x k (λ e. ne (ap suc e))

  -- what is at a place was there before, or is the last member
  pub last_or_before : (xs : List X) (x y : X) (k : ℕ) → slice_get (xs ++ x ∷ []) k ≡ Some y
      → ((k < length xs) × (slice_get xs k ≡ Some y)) ⊎ ((k ≡ length xs) × (x ≡ y))
  last_or_before xs x y k e = elim (eqb_tells k (length xs)) [
    | inl here ↦ inr (here.1, some_same x y (sym (slice_get-last xs x) ∙ rw here.1 at e))
    | inr there ↦ let was : slice_get xs k ≡ Some y = sym (slice_get-other xs x k there.1) ∙ e in inl (slice_get_within xs k y was, was)
  ]

  -- the front with the member at its end
  pub take_next : (xs : List X) (i : ℕ) (x : X) → slice_get xs i ≡ Some x → take (i + 1) xs ≡ take i xs ++ x ∷ []
  take_next xs i x e = take_more xs i x (slice_get_within xs i x e) ∙ ap (λ y. take i xs ++ y ∷ []) (get_or_from_slice_get xs i x x e)
