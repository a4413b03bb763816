-- Counts and choices among the numbers below n, one number more.
use Rattle.cal_policy.proofs.Common.{◌≡◌, ℕ, ◌+◌, ◌<◌, ◌≤◌, suc, zero, Bool, true, false, not, max, Option, Some, None, refl, ap, sym, ◌∙◌, cond, add-one, arith, ◌⊎◌, inl, inr, ⊎_elim, cases_lt, is_some, count_below, greatest_below, best_below, better, Candidate}

pub count_more : (p : ℕ → Bool) (n : ℕ) → count_below p (n + 1) ≡ count_below p n + cond (p n) 1 0
count_more p n = rw (add-one n) refl

pub greatest_more : (f : ℕ → ℕ) (n most next : ℕ) → most ≡ greatest_below f n → next ≡ f n → max most next ≡ greatest_below f (n + 1)
greatest_more f n most next e g = rw (add-one n, e, g) refl

pub best_more : {R : Type 0} (beats : R → R → Bool) (f : ℕ → Option R) (n : ℕ) (best : Option (Candidate R)) (rank : Option R) →
    best ≡ best_below beats f n → rank ≡ f n → better beats best rank n ≡ best_below beats f (n + 1)
best_more beats f n best rank e g = rw (add-one n, e, g) refl

some_better : {R : Type 0} (beats : R → R → Bool) (n : ℕ) (best : Option (Candidate R)) (rank : Option R) → (is_some best ≡ true) ⊎ (is_some rank ≡ true) → is_some (better beats best rank n) ≡ true
some_better beats n None None (inl e) = e
some_better beats n None None (inr e) = e
some_better beats n (Some best) None e = refl
some_better beats n None (Some rank) e = refl
some_better beats n (Some best) (Some rank) e = of_two (beats rank best.rank)
  where
    of_two : (b : Bool) → is_some (cond b (Some (record { rank = rank; number = n })) (Some best)) ≡ true
    of_two true = refl
    of_two false = refl

-- where one has a rank there is a best
pub some_is_best : {R : Type 0} (beats : R → R → Bool) (f : ℕ → Option R) (n k : ℕ) (rank : Option R) → k < n → is_some rank ≡ true → rank ≡ f k → is_some (best_below beats f n) ≡ true
some_is_best beats f zero k rank lt e is = absurd (omega (arith, lt))
some_is_best beats f (suc n) k rank lt e is = some_better beats n (best_below beats f n) (f n) (⊎_elim
    (λ before. inl (some_is_best beats f n k rank before e is))
    (λ from. let same : k ≡ n = omega (arith, lt, from) in inr (ap (λ j. is_some (f j)) (sym same) ∙ ap is_some (sym is) ∙ e))
    (cases_lt k n))

-- no more pass than there are
pub one_at_most : (b : Bool) → cond b 1 0 ≤ 1
one_at_most true = omega arith
one_at_most false = omega arith

pub count_at_most : (p : ℕ → Bool) (n : ℕ) → count_below p n ≤ n
count_at_most p zero = omega arith
count_at_most p (suc n) = omega (arith, count_at_most p n, one_at_most (p n))

-- one that passes counts among all
pub count_within : (p : ℕ → Bool) (k n : ℕ) → k < n → count_below p k + cond (p k) 1 0 ≤ count_below p n
count_within p k zero lt = absurd (omega arith)
count_within p k (suc n) lt = ⊎_elim
    (λ l. omega (arith, count_within p k n l))
    (λ g. let same : k ≡ n = omega arith in rw same (omega arith))
    (cases_lt k n)

-- of fewer numbers no more pass
pub count_grows : (p : ℕ → Bool) (k n : ℕ) → k ≤ n → count_below p k ≤ count_below p n
count_grows p k n le = ⊎_elim (λ l. omega (arith, count_within p k n l)) (λ (g : n ≤ k). let same : k ≡ n = omega (arith, g, le) in rw same (omega arith)) (cases_lt k n)

-- those that pass and those that do not are all
one_of_two : (b : Bool) → cond b 1 0 + cond (not b) 1 0 ≡ 1
one_of_two true = refl
one_of_two false = refl

pub count_both : (p : ℕ → Bool) (n : ℕ) → count_below p n + count_below (λ k. not (p k)) n ≡ n
count_both p zero = refl
count_both p (suc n) = omega (arith, count_both p n, one_of_two (p n))

-- numbers at which it is 0 make it no greater
pub greatest_past : (f : ℕ → ℕ) (n more : ℕ) → ((j : ℕ) → n ≤ j → j < n + more → f j ≡ 0) → greatest_below f (n + more) ≡ greatest_below f n
greatest_past f n zero none = let e : n + 0 ≡ n = omega arith in rw e refl
greatest_past f n (suc more) none =
    let e : n + suc more ≡ suc (n + more) = omega arith in
    let past = none (n + more) (omega arith) (omega arith) in
    let before = greatest_past f n more (λ j a b. none j a (omega (arith, b))) in
    rw (e, past, before) (omega arith)
