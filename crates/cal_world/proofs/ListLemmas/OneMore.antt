-- One more member at the end of a list.
use Rattle.cal_world.proofs.Common.{◌≡◌, ◌≢◌, ℕ, ◌+◌, ◌<◌, ◌≤◌, ◌⊎◌, zero, suc, List, [], ◌∷◌, ◌++◌, length, get_or, set, take, Some, None, refl, sym, ap, ◌∙◌, arith, inl, inr, subst, ⊎_elim, slice_get, length-set, take-append-le, get_or-set_same, get_or-set_other, slice_get_cases, slice_get-get_or, slice_get_within, get_or_from_slice_get, take-append_seam, slice_get_parts, slice_get_seam}
use Rattle.cal_machine.proofs.Last.{take_next}

-- what a list has at a place it has there when more comes after it
pub slice_get_left : {X : Type 0} (xs ys : List X) (i : ℕ) (z : X) → slice_get xs i ≡ Some z → slice_get (xs ++ ys) i ≡ Some z
slice_get_left [] ys i z e = cc
slice_get_left (x ∷ xs) ys zero z e = e
slice_get_left (x ∷ xs) ys (suc i) z e = slice_get_left xs ys i z e

-- with one more member, each place has what it had, or that member
pub get_or_push : {X : Type 0} (xs : List X) (y : X) (i : ℕ) (d : X) → (get_or (xs ++ y ∷ []) i d ≡ get_or xs i d) ⊎ (get_or (xs ++ y ∷ []) i d ≡ y)
get_or_push [] y zero d = inr refl
get_or_push [] y (suc i) d = inl refl
get_or_push (x ∷ xs) y zero d = inl refl
get_or_push (x ∷ xs) y (suc i) d = get_or_push xs y i d

-- what holds at the start, and is kept by each member, holds of each part of the list up to a place
pub of_each_part : {X : Type 0} (xs : List X) (P : List X → Type 0) → P [] →
    ((i : ℕ) (x : X) → slice_get xs i ≡ Some x → P (take i xs) → P (take i xs ++ x ∷ [])) → (n : ℕ) → n ≤ length xs → P (take n xs)
of_each_part xs P begin step zero le = begin
of_each_part xs P begin step (suc n) le = ⊎_elim
    (λ found.
    let one : suc n ≡ n + 1 = omega arith in
    let same = sym (take_next xs n found.0 found.2) ∙ ap (λ m. take m xs) (sym one) in
    subst P same (step n found.0 found.2 (of_each_part xs P begin step n (omega arith))))
    (λ past. absurd (let no = past.0 in omega arith))
    (slice_get_cases xs n).1

-- where each member stands well after those before it, and one more does, each of all does
pub each_more : {X : Type 0} (Q : List X → X → Type 0) (xs : List X) (y : X) →
    ((i : ℕ) (x : X) → slice_get xs i ≡ Some x → Q (take i xs) x) → Q xs y →
    (i : ℕ) (x : X) → slice_get (xs ++ y ∷ []) i ≡ Some x → Q (take i (xs ++ y ∷ [])) x
each_more {X} Q xs y each here i x is =
    ⊎_elim (λ old. earlier i x old) (λ new. last i new.0 x new.1 new.2) (slice_get_parts xs (y ∷ []) i x is)
  where
    earlier : (i : ℕ) (x : X) → slice_get xs i ≡ Some x → Q (take i (xs ++ y ∷ [])) x
    earlier i x old =
        let low = slice_get_within xs i x old in
        subst (λ before. Q before x) (sym (take-append-le i xs (y ∷ []) (omega arith))) (each i x old)

    last : (i j : ℕ) (x : X) → i ≡ length xs + j → slice_get (y ∷ []) j ≡ Some x → Q (take i (xs ++ y ∷ [])) x
    last i zero x at is =
        let seam : i ≡ length xs = omega arith in
        let same : y ≡ x = cc in
        subst (λ n. Q (take n (xs ++ y ∷ [])) x) (sym seam)
        (subst (λ before. Q before x) (sym (take-append_seam xs (y ∷ []))) (subst (λ z. Q xs z) same here))
    last i (suc j) x at is = let none : None ≡ Some x = is in cc

-- and the last of them does
pub each_last : {X : Type 0} (Q : List X → X → Type 0) (xs : List X) (y : X) →
    ((i : ℕ) (x : X) → slice_get (xs ++ y ∷ []) i ≡ Some x → Q (take i (xs ++ y ∷ [])) x) → Q xs y
each_last Q xs y each = subst (λ before. Q before y) (take-append_seam xs (y ∷ [])) (each (length xs) y (slice_get_seam xs y []))

-- one member set
pub slice_get_set_same : {X : Type 0} (xs : List X) (k : ℕ) (y z : X) → k < length xs → slice_get (set xs k y) k ≡ Some z → y ≡ z
slice_get_set_same xs k y z low at = sym (get_or-set_same xs k y z low) ∙ get_or_from_slice_get (set xs k y) k z z at

pub slice_get_set_other : {X : Type 0} (xs : List X) (k j : ℕ) (y z : X) → (k ≡ j → ⊥) → slice_get (set xs k y) j ≡ Some z → slice_get xs j ≡ Some z
slice_get_set_other xs k j y z off at =
    let low = slice_get_within (set xs k y) j z at in
    let size = length-set xs k y in
    let other : j ≢ k = λ same. off (sym same) in
    slice_get-get_or xs j z (omega arith) ∙ ap (λ x. Some x) (sym (get_or-set_other xs k j y z other) ∙ get_or_from_slice_get (set xs k y) j z z at)

-- two lists that were compared place by place

pub same_lists : {X : Type 0} (xs ys : List X) → length xs ≡ length ys → ((k : ℕ) → k < length xs → slice_get xs k ≡ slice_get ys k) → xs ≡ ys
same_lists [] [] len same = refl
same_lists [] (y ∷ ys) len same = absurd (omega arith)
same_lists (x ∷ xs) [] len same = absurd (omega arith)
same_lists (x ∷ xs) (y ∷ ys) len same =
    let first : Some x ≡ Some y = same 0 (omega arith) in
    let head : x ≡ y = cc in
    ap (λ z. z ∷ xs) head ∙ ap (λ zs. y ∷ zs) (same_lists xs ys (omega arith) (λ k low. same (suc k) (omega arith)))
