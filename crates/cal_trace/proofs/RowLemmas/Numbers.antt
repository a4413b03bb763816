-- The numbers among a row's fields.
use Rattle.cal_trace.proofs.Common.{◌≡◌, ◌<◌, ◌≤◌, ◌+◌, ℕ, zero, suc, true, false, List, [], ◌∷◌, length, drop, Some, refl, arith, add-one, drop_all, field_at, Fields, is_number_at, all_numbers}

-- the field at a place, and those after it
at_place : (fields : Fields) (i : ℕ) → i < length fields → (f : List ℕ) × (field_at fields i ≡ Some f) × (drop i fields ≡ f ∷ drop (i + 1) fields)
unfolding field_at
at_place [] i lt = absurd (omega arith)
at_place (f ∷ fields) zero lt = (f, refl, refl)
at_place (f ∷ fields) (suc i) lt =
    let t = at_place fields i (omega arith) in
    (t.0, t.1, rw (add-one (suc i)) (rw add-one at t.2))

pub no_number : (fields : Fields) (i : ℕ) → i < length fields → is_number_at fields i ≡ false → all_numbers (drop i fields) ≡ false
no_number fields i lt h = let t = at_place fields i lt in rw (t.2) (rw (rw t.1 at h) refl)

pub one_number : (fields : Fields) (i : ℕ) → i < length fields → is_number_at fields i ≡ true → all_numbers (drop i fields) ≡ all_numbers (drop (i + 1) fields)
one_number fields i lt h = let t = at_place fields i lt in rw (t.2) (rw (rw t.1 at h) refl)

pub no_more : (fields : Fields) (i : ℕ) → length fields ≤ i → all_numbers (drop i fields) ≡ true
no_more fields i le = rw (drop_all i fields le) refl
