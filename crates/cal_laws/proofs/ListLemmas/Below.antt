-- Counts among the numbers below n, and the highest and the lowest of those that pass.
use Rattle.cal_laws.proofs.Common.{◌≡◌, ℕ, ◌<◌, ◌≤◌, ◌⊎◌, zero, suc, Bool, true, false, cond, Option, Some, None, refl, sym, subst, arith, inl, inr, ⊎_elim, is_some, count_below, highest_below, first_or, lowest_below}
use Rattle.cal_policy.proofs.PassLemmas.Best.{cases_eq_lt}

-- tests that agree count as many
pub count_same : (p q : ℕ → Bool) (n : ℕ) → ((k : ℕ) → p k ≡ q k) → count_below p n ≡ count_below q n
count_same p q zero e = refl
count_same p q (suc n) e = rw (count_same p q n e, e n) refl

-- the highest that passes: it does, and none that does is higher
pub record IsHighest (p : ℕ → Bool) (n k : ℕ) : Type 0 where
  pub below : k < n
  pub passes : p k ≡ true
  pub none_higher : (j : ℕ) → j < n → p j ≡ true → j ≤ k

highest_last : (p : ℕ → Bool) (n k : ℕ) → p n ≡ true → n ≡ k → IsHighest p (suc n) k
highest_last p n k e same = record {
  below = omega arith;
  passes = let P : ℕ → Type 0 = λ m. p m ≡ true in subst P same e;
  none_higher = λ j lt f. omega arith;
}

highest_before : (p : ℕ → Bool) (n k : ℕ) → p n ≡ false → IsHighest p n k → IsHighest p (suc n) k
highest_before p n k e h = record {
  below = omega (arith, h.below);
  passes = h.passes;
  none_higher = λ j lt f. ⊎_elim
      (λ below. h.none_higher j below f)
      (λ same. let Q : ℕ → Type 0 = λ m. p m ≡ true in let no : p n ≡ true = subst Q same f in cc)
      (cases_eq_lt j n lt);
}

highest_step : (p : ℕ → Bool) (n k : ℕ) → (highest_below p n ≡ Some k → IsHighest p n k) → (b : Bool) → p n ≡ b →
    cond b (Some n) (highest_below p n) ≡ Some k → IsHighest p (suc n) k
highest_step p n k h true i f = highest_last p n k i (let same : n ≡ k = cc in same)
highest_step p n k h false i f = highest_before p n k i (h f)

pub highest_is : (p : ℕ → Bool) (n k : ℕ) → highest_below p n ≡ Some k → IsHighest p n k
highest_is p zero k e = cc
highest_is p (suc n) k e = highest_step p n k (highest_is p n k) (p n) refl e

found_step : (p : ℕ → Bool) (n k : ℕ) → (k < n → is_some (highest_below p n) ≡ true) → (k < n) ⊎ (k ≡ n) → p k ≡ true → (b : Bool) → p n ≡ b →
    is_some (cond b (Some n) (highest_below p n)) ≡ true
found_step p n k h at e true i = refl
found_step p n k h (inl below) e false i = h below
found_step p n k h (inr same) e false i = let P : ℕ → Type 0 = λ m. p m ≡ true in let no : p n ≡ true = subst P same e in cc

-- where one passes there is a highest
pub highest_found : (p : ℕ → Bool) (n k : ℕ) → k < n → p k ≡ true → is_some (highest_below p n) ≡ true
highest_found p zero k lt e = absurd (omega arith)
highest_found p (suc n) k lt e = found_step p n k (λ below. highest_found p n k below e) (cases_eq_lt k n lt) e (p n) refl

-- the lowest that passes: it does, and none that does is lower
pub record IsLowest (p : ℕ → Bool) (n k : ℕ) : Type 0 where
  pub below : k < n
  pub passes : p k ≡ true
  pub none_lower : (j : ℕ) → j < n → p j ≡ true → k ≤ j

none_of : (o : Option ℕ) (b : Bool) (n : ℕ) → first_or o b n ≡ None → (o ≡ None) × (b ≡ false)
none_of (Some k) b n e = cc
none_of None true n e = cc
none_of None false n e = (refl, refl)

-- where there is no lowest, none passes
pub none_passes : (p : ℕ → Bool) (n : ℕ) → lowest_below p n ≡ None → (j : ℕ) → j < n → p j ≡ false
none_passes p zero e j lt = absurd (omega arith)
none_passes p (suc n) e j lt =
    let parts = none_of (lowest_below p n) (p n) n e in
    let P : ℕ → Type 0 = λ m. p m ≡ false in
    ⊎_elim (λ below. none_passes p n parts.0 j below) (λ same. subst P (sym same) parts.1) (cases_eq_lt j n lt)

lowest_before : (p : ℕ → Bool) (n k : ℕ) → IsLowest p n k → IsLowest p (suc n) k
lowest_before p n k h = record {
  below = omega (arith, h.below);
  passes = h.passes;
  none_lower = λ j lt f. ⊎_elim (λ below. h.none_lower j below f) (λ same. omega (arith, h.below)) (cases_eq_lt j n lt);
}

lowest_last : (p : ℕ → Bool) (n k : ℕ) → lowest_below p n ≡ None → p n ≡ true → n ≡ k → IsLowest p (suc n) k
lowest_last p n k none e same = record {
  below = omega arith;
  passes = let P : ℕ → Type 0 = λ m. p m ≡ true in subst P same e;
  none_lower = λ j lt f. ⊎_elim (λ below. let no = none_passes p n none j below in cc) (λ last. omega arith) (cases_eq_lt j n lt);
}

lowest_step : (p : ℕ → Bool) (n k : ℕ) (o : Option ℕ) → lowest_below p n ≡ o → (o ≡ Some k → IsLowest p n k) → (b : Bool) → p n ≡ b → first_or o b n ≡ Some k → IsLowest p (suc n) k
lowest_step p n k (Some m) i h b f e = lowest_before p n k (h e)
lowest_step p n k None i h true f e = lowest_last p n k i f (let same : n ≡ k = cc in same)
lowest_step p n k None i h false f e = cc

pub lowest_is : (p : ℕ → Bool) (n k : ℕ) → lowest_below p n ≡ Some k → IsLowest p n k
lowest_is p zero k e = cc
lowest_is p (suc n) k e = lowest_step p n k (lowest_below p n) refl (lowest_is p n k) (p n) refl e
