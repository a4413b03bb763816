-- Counts of which one is put into the other.
use Rattle.cal_world.proofs.Common.{◌≡◌, ℕ, ◌+◌, ◌<◌, ◌≤◌, zero, suc, Bool, true, false, ◌&&◌, not, cond, eqb, refl, ap, ◌∙◌, arith, and_parts, nat_tests}
use Rattle.cal_policy.specs.Pass.Choice.{count_below}
use Rattle.cal_policy.proofs.ListLemmas.Counted.{count_less}
use Rattle.std.proofs.Math.Bool.{and-false}

-- f puts the numbers below n that pass p among those below m that pass q, no two on one
pub record PutsInto (p : ℕ → Bool) (n : ℕ) (q : ℕ → Bool) (m : ℕ) (f : ℕ → ℕ) : Type 0 where
  pub low : (k : ℕ) → k < n → p k ≡ true → f k < m
  pub passes : (k : ℕ) → k < n → p k ≡ true → q (f k) ≡ true
  pub apart : (j k : ℕ) → j < n → k < n → p j ≡ true → p k ≡ true → f j ≡ f k → j ≡ k

-- then no more pass p than q
pub count_put : (p : ℕ → Bool) (n : ℕ) (q : ℕ → Bool) (m : ℕ) (f : ℕ → ℕ) → PutsInto p n q m f → count_below p n ≤ count_below q m
count_put p zero q m f put = omega arith
count_put p (suc n) q m f put = choose (λ r. count_put p n r m f) (p n) refl
  where
    fewer : (r : ℕ → Bool) → ((k : ℕ) → k < n → p k ≡ true → r (f k) ≡ true) → PutsInto p n r m f
    fewer r passes = record {
      low = λ k low is. put.low k (omega arith) is;
      passes = passes;
      apart = λ j k low1 low2 a b same. put.apart j k (omega arith) (omega arith) a b same;
    }

    -- q without the number on which n is put
    rest : ℕ → Bool
    rest c = q c && not (eqb c (f n))

    rest_passes : p n ≡ true → (k : ℕ) → k < n → p k ≡ true → rest (f k) ≡ true
    rest_passes is k low here =
        let off : f k ≡ f n → ⊥ = λ same. (let no : k ≡ n = put.apart k n (omega arith) (omega arith) here is same in omega arith) in
        let apart : eqb (f k) (f n) ≡ false = grind (arith, nat_tests) in
        let there = put.passes k (omega arith) here in
        ap (λ (b : Bool). b && not (eqb (f k) (f n))) there ∙ ap not apart

    choose : ((r : ℕ → Bool) → PutsInto p n r m f → count_below p n ≤ count_below r m) → (b : Bool) → p n ≡ b → count_below p n + cond b 1 0 ≤ count_below q m
    choose fewer_of false is = let le = fewer_of q (fewer q (λ k low. put.passes k (omega arith))) in omega arith
    choose fewer_of true is =
        let le = fewer_of rest (fewer rest (rest_passes is)) in
        let same : eqb (f n) (f n) ≡ true = grind (arith, nat_tests) in
        let gone : rest (f n) ≡ false = ap (λ (b : Bool). q (f n) && not b) same ∙ and-false (q (f n)) in
        let less = count_less q rest (f n) m (put.low n (omega arith) is) (λ c low here. (and_parts (q c) (not (eqb c (f n))) here).0) (put.passes n (omega arith) is) gone in omega arith
