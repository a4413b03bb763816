-- What stands at each task's place, while one place after the other is brought up.
use Rattle.cal_measure.proofs.Common.{◌++◌, ◌∷◌, [], ◌≡◌, ◌≢◌, ◌∙◌, ◌+◌, ◌<◌, ◌≤◌, ℕ, List, Some, length, get_or, set, ap, subst, sym, arith, ⊎_elim, cases_eq, get_or-set_same, get_or-set_other, slice_get-get_or, slice_get_within, get_or_from_slice_get, last_or_before, EachTask}
use Rattle.std.specs.List.{slice_get}
use Rattle.std.proofs.Math.ListN.{length-set}

-- the first i places have what is new, the others what was
pub record AreUpTo {X : Type 0} (Old New : ℕ → X → Type 0) (i : ℕ) (rows : List X) : Type 0 where
  pub new : (t : ℕ) (row : X) → slice_get rows t ≡ Some row → t < i → New t row
  pub old : (t : ℕ) (row : X) → slice_get rows t ≡ Some row → i ≤ t → Old t row

pub none_yet : {X : Type 0} (Old New : ℕ → X → Type 0) (rows : List X) → EachTask Old rows → AreUpTo Old New 0 rows
none_yet Old New rows each = record { new = λ t row at lt. absurd (omega (arith, lt)); old = λ t row at le. each t row at }

pub all_done : {X : Type 0} (Old New : ℕ → X → Type 0) (i : ℕ) (rows : List X) → length rows ≤ i → AreUpTo Old New i rows → EachTask New rows
all_done Old New i rows le are t row at = are.new t row at (let low = slice_get_within rows t row at in omega (arith, low, le))

set_same : {X : Type 0} (xs : List X) (k : ℕ) (y z : X) → k < length xs → slice_get (set xs k y) k ≡ Some z → y ≡ z
set_same xs k y z low at = sym (get_or-set_same xs k y z low) ∙ get_or_from_slice_get (set xs k y) k z z at

set_other : {X : Type 0} (xs : List X) (k j : ℕ) (y z : X) → (k ≡ j → ⊥) → slice_get (set xs k y) j ≡ Some z → slice_get xs j ≡ Some z
set_other xs k j y z off at =
    let low = slice_get_within (set xs k y) j z at in
    let size = length-set xs k y in
    let other : j ≢ k = λ same. off (sym same) in
    slice_get-get_or xs j z (omega arith) ∙ ap (λ x. Some x) (sym (get_or-set_other xs k j y z other) ∙ get_or_from_slice_get (set xs k y) j z z at)

pub one_done : {X : Type 0} (Old New : ℕ → X → Type 0) (i : ℕ) (rows : List X) (d is : X) → i < length rows →
    AreUpTo Old New i rows → (Old i (get_or rows i d) → New i is) → AreUpTo Old New (i + 1) (set rows i is)
one_done {X} Old New i rows d is lt are step = record {
  new = λ t row at low. ⊎_elim (λ (same : i ≡ t). here t row same at) (λ (off : i ≡ t → ⊥). are.new t row (set_other rows i t is row off at) (before t off low)) (cases_eq i t);
  old = λ t row at le. are.old t row (set_other rows i t is row (λ same. apart t same le) at) (omega (arith, le));
}
  where
    apart : (t : ℕ) → i ≡ t → i + 1 ≤ t → ⊥
    apart t same le = omega (arith, same, le)

    before : (t : ℕ) → (i ≡ t → ⊥) → t < i + 1 → t < i
    before t off low = omega (arith, off, low)

    made : New i is
    made = step (are.old i (get_or rows i d) (slice_get-get_or rows i d lt) (omega arith))

    here : (t : ℕ) (row : X) → i ≡ t → slice_get (set rows i is) t ≡ Some row → New t row
    here t row same at =
        let P : ℕ → Type 0 = λ n. slice_get (set rows i is) n ≡ Some row in
        let found : is ≡ row = set_same rows i is row lt (subst P (sym same) at) in
        let Q : ℕ → Type 0 = λ n. New n row in
        let R : X → Type 0 = λ r. New i r in
        subst Q same (subst R found made)

-- one place is brought up, and at the others what is new is what was
pub one_place : {X : Type 0} (Old New : ℕ → X → Type 0) (i : ℕ) (rows : List X) (d is : X) → i < length rows → EachTask Old rows →
    (Old i (get_or rows i d) → New i is) → ((t : ℕ) (row : X) → t ≢ i → Old t row → New t row) → EachTask New (set rows i is)
one_place {X} Old New i rows d is lt each step others t row at =
    ⊎_elim (λ (same : i ≡ t). here same) (λ (off : i ≡ t → ⊥). others t row (λ same. off (sym same)) (each t row (set_other rows i t is row off at))) (cases_eq i t)
  where
    here : i ≡ t → New t row
    here same =
        let P : ℕ → Type 0 = λ n. slice_get (set rows i is) n ≡ Some row in
        let found : is ≡ row = set_same rows i is row lt (subst P (sym same) at) in
        let Q : ℕ → Type 0 = λ n. New n row in
        let R : X → Type 0 = λ r. New i r in
        subst Q same (subst R found (step (each i (get_or rows i d) (slice_get-get_or rows i d lt))))

-- one row more, at its end
pub each_more : {X : Type 0} (P : ℕ → X → Type 0) (rows : List X) (row : X) → EachTask P rows → P (length rows) row → EachTask P (rows ++ row ∷ [])
each_more {X} P rows row each here t found at =
    ⊎_elim (λ was. each t found was.1) (λ last. subst (λ r. P t r) last.1 (subst (λ k. P k row) (sym last.0) here)) (last_or_before rows row found t at)
