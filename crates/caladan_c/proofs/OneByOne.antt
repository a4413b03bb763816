-- The looks of a pass that takes them one by one, one more.
use Rattle.caladan_c.proofs.Common.{◌≡◌, ℕ, zero, suc, ◌+◌, ◌<◌, ◌++◌, ◌∷◌, [], true, List, Some, None, length, map, slice_get, get_or, refl, sym, ap, ◌∙◌, arith, ◌≢◌, set, inl, inr, is_some, map-append, get_or_from_slice_get, PassEntry, FoundLook, fault_of, taken_found, taken_looks, look_of_found, said_of, is_unfit, IsFirstUnfit, Found}
use Rattle.std.specs.List.{enumerate_from}
use Rattle.std.proofs.lemmas.Bool.Decides.{eqb_tells}
use Rattle.cal_machine.proofs.Places.{slice_get_at}

numbered_more : {X : Type 0} (n : ℕ) (xs : List X) (x : X) → enumerate_from n (xs ++ x ∷ []) ≡ enumerate_from n xs ++ (n + length xs, x) ∷ []
numbered_more n [] x = let same : n ≡ n + 0 = omega arith in ap (λ m. (m, x) ∷ []) same
numbered_more n (y ∷ ys) x =
    let same : n + 1 + length ys ≡ n + length (y ∷ ys) = omega arith in
    ap (λ zs. (n, y) ∷ zs) (numbered_more (n + 1) ys x ∙ ap (λ m. enumerate_from (n + 1) ys ++ (m, x) ∷ []) same)

-- what is taken of one look more
pub taken_more : (cores : ℕ) (h : List PassEntry) (xs : List FoundLook) (x : FoundLook) →
    taken_looks cores h (xs ++ x ∷ []) ≡ taken_looks cores h xs ++ taken_found cores h (length xs, x) ∷ []
taken_more cores h xs x =
    let zero : 0 + length xs ≡ length xs = omega arith in
    ap (λ es. map (taken_found cores h) es) (numbered_more 0 xs x) ∙ map-append (taken_found cores h) (enumerate_from 0 xs) ((0 + length xs, x) ∷ [])
    ∙ ap (λ k. map (taken_found cores h) (enumerate_from 0 xs) ++ taken_found cores h (k, x) ∷ []) zero

set_same : (xs : List ℕ) (k v : ℕ) → k < length xs → slice_get (set xs k v) k ≡ Some v
set_same [] k v lt = absurd (omega (arith, lt))
set_same (x ∷ xs) zero v lt = refl
set_same (x ∷ xs) (suc k) v lt = set_same xs k v (omega (arith, lt))

set_other : (xs : List ℕ) (k v j : ℕ) → j ≢ k → slice_get (set xs k v) j ≡ slice_get xs j
set_other [] k v j ne = refl
set_other (x ∷ xs) zero v zero ne = absurd (ne refl)
set_other (x ∷ xs) zero v (suc j) ne = refl
set_other (x ∷ xs) (suc k) v zero ne = refl
set_other (x ∷ xs) (suc k) v (suc j) ne = set_other xs k v j (λ e. ne (ap suc e))

-- what C is told of the first k looks, and of the next one
pub said_to : (cores : ℕ) (h : List PassEntry) (looks : List Found) (out out2 : List ℕ) (k v : ℕ) (d : Found) → k < length out →
    out2 ≡ set out k v → v ≡ said_of (fault_of cores h k (look_of_found (get_or looks k d))) (look_of_found (get_or looks k d)) → k < length looks →
    ((j : ℕ) (o : Found) → j < k → slice_get looks j ≡ Some o → slice_get out j ≡ Some (said_of (fault_of cores h j (look_of_found o)) (look_of_found o))) →
    (j : ℕ) (o : Found) → j < k + 1 → slice_get looks j ≡ Some o → slice_get out2 j ≡ Some (said_of (fault_of cores h j (look_of_found o)) (look_of_found o))
said_to cores h looks out out2 k v d room is said lt before j o low at = elim (eqb_tells j k) [
  | inl e ↦
      let there : get_or looks k d ≡ o = get_or_from_slice_get looks k o d (ap (λ m. slice_get looks m) (sym e.1) ∙ at) in
      let v_is : v ≡ said_of (fault_of cores h j (look_of_found o)) (look_of_found o) =
      said ∙ ap (λ (f : Found). said_of (fault_of cores h k (look_of_found f)) (look_of_found f)) there ∙ ap (λ m. said_of (fault_of cores h m (look_of_found o)) (look_of_found o)) (sym e.1) in
      ap (λ l. slice_get l j) is ∙ ap (λ m. slice_get (set out k v) m) e.1 ∙ set_same out k v room ∙ ap Some v_is
  | inr n ↦
      let below : j < k = omega (arith, low, n.1) in
      ap (λ l. slice_get l j) is ∙ set_other out k v j n.1 ∙ before j o below at
]

-- the first look that does not fit
pub first_one : (h : List PassEntry) (looks : List Found) (k : ℕ) (d : Found) → k < length looks → is_some (is_unfit h k (get_or looks k d)) ≡ true →
    ((j : ℕ) (o : Found) → j < k → slice_get looks j ≡ Some o → is_unfit h j o ≡ None) → IsFirstUnfit h looks k
first_one h looks k d lt unfit before =
    let at = slice_get_at looks k lt in
    let same : get_or looks k d ≡ at.0 = get_or_from_slice_get looks k at.0 d at.1 in
    record { one = at.0; there = at.1; unfit = ap (λ (o : Found). is_some (is_unfit h k o)) (sym same) ∙ unfit; first = before }
