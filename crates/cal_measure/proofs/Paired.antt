-- What is said of each member of a list and the next one, told one member more.
use Rattle.cal_measure.proofs.Common.{◌≡◌, ◌<◌, ◌+◌, ◌-◌, ◌∙◌, ℕ, zero, suc, List, [], ◌∷◌, ◌++◌, Option, Some, None, length, slice_get, refl, ap, sym, arith, slice_get_past, joined_below}
use Rattle.cal_machine.proofs.Places.{slice_get_front, slice_get_seam}

-- lists end to end, each of which is the same
pub joined_same : {X : Type 0} (f g : ℕ → List X) (n : ℕ) → ((i : ℕ) → i < n → f i ≡ g i) → joined_below f n ≡ joined_below g n
joined_same f g zero same = refl
joined_same f g (suc n) same =
    ap (λ l. l ++ f n) (joined_same f g n (λ i lt. same i (omega (arith, lt)))) ∙ ap (λ l. joined_below g n ++ l) (same n (omega arith))

-- what f gives of the member at place i and the next one
abbrev pub paired : {X Y : Type 0} → (Option X → Option X → List Y) → List X → ℕ → List Y
paired f xs i = f (slice_get xs i) (slice_get xs (i + 1))

-- of the members but the last
abbrev pub before_last : {X Y : Type 0} → (Option X → Option X → List Y) → List X → List Y
before_last f xs = joined_below (paired f xs) (length xs - 1)

abbrev pub last_member : {X : Type 0} → List X → Option X
last_member xs = slice_get xs (length xs - 1)

module _ {X Y : Type 0} (f : Option X → Option X → List Y) where
  paired_front : (xs : List X) (x : X) (i : ℕ) → i + 1 < length xs → paired f (xs ++ x ∷ []) i ≡ paired f xs i
  paired_front xs x i lt =
      ap (λ o. f o (slice_get (xs ++ x ∷ []) (i + 1))) (slice_get_front xs (x ∷ []) i (omega (arith, lt)))
      ∙ ap (λ o. f (slice_get xs i) o) (slice_get_front xs (x ∷ []) (i + 1) lt)

  paired_seam : (xs : List X) (x : X) (n : ℕ) → length xs ≡ n + 1 → paired f (xs ++ x ∷ []) n ≡ f (slice_get xs n) (Some x)
  paired_seam xs x n e =
      ap (λ o. f o (slice_get (xs ++ x ∷ []) (n + 1))) (slice_get_front xs (x ∷ []) n (omega (arith, e)))
      ∙ ap (λ o. f (slice_get xs n) o) (ap (λ k. slice_get (xs ++ x ∷ []) k) (sym e) ∙ slice_get_seam xs x [])

  -- with one member more the last of those before is followed by it
  pub paired_push : (xs : List X) (x : X) → f None (Some x) ≡ [] →
      joined_below (paired f (xs ++ x ∷ [])) (length xs) ≡ before_last f xs ++ f (last_member xs) (Some x)
  paired_push [] x none = sym none
  paired_push (y ∷ ys) x none =
      let n = length ys in
      let zs : List X = y ∷ ys in
      let many : length zs - 1 ≡ n = omega arith in
      ap (λ l. l ++ paired f (zs ++ x ∷ []) n) (joined_same (paired f (zs ++ x ∷ [])) (paired f zs) n (λ i lt. paired_front zs x i (omega (arith, lt))))
      ∙ ap (λ l. joined_below (paired f zs) n ++ l) (paired_seam zs x n (omega arith))
      ∙ ap (λ k. joined_below (paired f zs) k ++ f (slice_get zs k) (Some x)) (sym many)

  -- and the last one by none
  pub paired_whole : (xs : List X) → f None None ≡ [] → joined_below (paired f xs) (length xs) ≡ before_last f xs ++ f (last_member xs) None
  paired_whole [] none = sym none
  paired_whole (y ∷ ys) none =
      let n = length ys in
      let zs : List X = y ∷ ys in
      let many : length zs - 1 ≡ n = omega arith in
      ap (λ o. joined_below (paired f zs) n ++ f (slice_get zs n) o) (slice_get_past zs (n + 1) (omega arith))
      ∙ ap (λ k. joined_below (paired f zs) k ++ f (slice_get zs k) None) (sym many)
