-- How counts and choices among the numbers below n go with their tests.
use Rattle.cal_policy.proofs.Common.{◌≡◌, ℕ, ◌+◌, ◌<◌, ◌≤◌, ◌⊎◌, Bool, true, false, cond, Option, Some, None, refl, sym, ap, ◌∙◌, subst, arith, inl, inr, ⊎_elim, zero, suc, cases_eq, cases_lt, count_below, best_below, better, highest_below, lowest_below, first_or, Candidate}
use Rattle.cal_policy.proofs.ListLemmas.OneNumberMore.{one_at_most}

-- where fewer pass, fewer are counted
pub one_le : (a b : Bool) → (a ≡ true → b ≡ true) → cond a 1 0 ≤ cond b 1 0
one_le false b e = omega arith
one_le true b e = rw (e refl) (omega arith)

pub count_le : (p q : ℕ → Bool) (n : ℕ) → ((c : ℕ) → c < n → q c ≡ true → p c ≡ true) → count_below q n ≤ count_below p n
count_le p q zero e = omega arith
count_le p q (suc n) e = omega (arith, count_le p q n (λ c lt. e c (omega arith)), one_le (q n) (p n) (e n (omega arith)))

pub one_when : (b : Bool) → b ≡ true → 0 < cond b 1 0
one_when true e = omega arith
one_when false e = cc

none_when : (b : Bool) → b ≡ false → cond b 1 0 ≤ 0
none_when true e = cc
none_when false e = omega arith

-- where one no longer passes, one less is counted
pub count_less : (p q : ℕ → Bool) (k n : ℕ) → k < n → ((c : ℕ) → c < n → q c ≡ true → p c ≡ true) → p k ≡ true → q k ≡ false → count_below q n + 1 ≤ count_below p n
count_less p q k zero lt e f g = absurd (omega (arith, lt))
count_less p q k (suc n) lt e f g = ⊎_elim
    (λ (l : k < n). omega (arith, count_less p q k n l (λ c low. e c (omega (arith, low))) f g, one_le (q n) (p n) (e n (omega arith))))
    (λ (h : n ≤ k).
    let same : k ≡ n = omega (arith, lt, h) in
    omega (arith, count_le p q n (λ c low. e c (omega (arith, low))), one_when (p n) (ap p (sym same) ∙ f), none_when (q n) (ap q (sym same) ∙ g)))
    (cases_lt k n)

-- where one more may pass, at most one more is counted
one_step : (p q : ℕ → Bool) (core n : ℕ) → ((c : ℕ) → c < suc n → (c ≡ core → ⊥) → q c ≡ true → p c ≡ true) → count_below q n ≤ count_below p n + 1 →
    (n ≡ core) ⊎ (n ≡ core → ⊥) → count_below q (suc n) ≤ count_below p (suc n) + 1
one_step p q core n e h (inl at) = omega (arith, count_le p q n (λ c lt. e c (omega arith) (omega arith)), one_at_most (q n))
one_step p q core n e h (inr off) = omega (arith, h, one_le (q n) (p n) (e n (omega arith) off))

pub count_le_one : (p q : ℕ → Bool) (core n : ℕ) → ((c : ℕ) → c < n → (c ≡ core → ⊥) → q c ≡ true → p c ≡ true) → count_below q n ≤ count_below p n + 1
count_le_one p q core zero e = omega arith
count_le_one p q core (suc n) e = one_step p q core n e (count_le_one p q core n (λ c lt. e c (omega arith))) (cases_eq n core)

-- a number that passes, below n
abbrev pub Passes : (ℕ → Bool) → ℕ → ℕ → Type 0
Passes p n k = (k < n) × (p k ≡ true)

passes_more : (p : ℕ → Bool) (n k : ℕ) → Passes p n k → Passes p (suc n) k
passes_more p n k e = (omega (arith, e.0), e.1)

passes_last : (p : ℕ → Bool) (n k : ℕ) → p n ≡ true → n ≡ k → Passes p (suc n) k
passes_last p n k e same = rw (← same) (omega arith, e)

highest_step : (p : ℕ → Bool) (n k : ℕ) → (highest_below p n ≡ Some k → Passes p n k) → (b : Bool) → p n ≡ b →
    cond b (Some n) (highest_below p n) ≡ Some k → Passes p (suc n) k
highest_step p n k h true i f = passes_last p n k i (let same : n ≡ k = cc in same)
highest_step p n k h false i f = passes_more p n k (h f)

-- the highest passes
pub highest_passes : (p : ℕ → Bool) (n k : ℕ) → highest_below p n ≡ Some k → Passes p n k
highest_passes p zero k e = cc
highest_passes p (suc n) k e = highest_step p n k (highest_passes p n k) (p n) refl e

lowest_step : (p : ℕ → Bool) (n k : ℕ) → (o : Option ℕ) → (o ≡ Some k → Passes p n k) → (b : Bool) → p n ≡ b → first_or o b n ≡ Some k → Passes p (suc n) k
lowest_step p n k (Some j) h b i f = passes_more p n k (h f)
lowest_step p n k None h true i f = passes_last p n k i (let same : n ≡ k = cc in same)
lowest_step p n k None h false i f = cc

-- the lowest passes
pub lowest_passes : (p : ℕ → Bool) (n k : ℕ) → lowest_below p n ≡ Some k → Passes p n k
lowest_passes p zero k e = cc
lowest_passes p (suc n) k e = lowest_step p n k (lowest_below p n) (lowest_passes p n k) (p n) refl e

missing_step : (p : ℕ → Bool) (n j : ℕ) → (o : Option ℕ) → (o ≡ None → j < n → p j ≡ false) → (b : Bool) → p n ≡ b → first_or o b n ≡ None → (j < n) ⊎ (j ≡ n) → p j ≡ false
missing_step p n j (Some k) h b i f at = cc
missing_step p n j None h true i f at = cc
missing_step p n j None h false i f (inl l) = h refl l
missing_step p n j None h false i f (inr same) = rw same i

-- where there is no lowest, none passes
pub lowest_missing : (p : ℕ → Bool) (n j : ℕ) → lowest_below p n ≡ None → j < n → p j ≡ false
lowest_missing p zero j e lt = absurd (omega arith)
lowest_missing p (suc n) j e lt = missing_step p n j (lowest_below p n) (lowest_missing p n j) (p n) refl e
    (⊎_elim (λ l. inl l) (λ g. inr (omega arith)) (cases_lt j n))

first_step : (p : ℕ → Bool) (n k j : ℕ) → (o : Option ℕ) → lowest_below p n ≡ o → (o ≡ Some k → p j ≡ false) → j < k → (b : Bool) → first_or o b n ≡ Some k → p j ≡ false
first_step p n k j (Some i) e h lt b f = h f
first_step p n k j None e h lt true f = let same : n ≡ k = cc in lowest_missing p n j e (omega (arith, lt, same))
first_step p n k j None e h lt false f = cc

-- and none below the lowest passes
pub lowest_first : (p : ℕ → Bool) (n k j : ℕ) → lowest_below p n ≡ Some k → j < k → p j ≡ false
lowest_first p zero k j e lt = cc
lowest_first p (suc n) k j e lt = first_step p n k j (lowest_below p n) refl (λ f. lowest_first p n k j f lt) lt (p n) e

-- numbers that do not pass leave it that there is none
pub lowest_past : (p : ℕ → Bool) (m n : ℕ) → m ≤ n → lowest_below p m ≡ None → ((k : ℕ) → m ≤ k → k < n → p k ≡ false) → lowest_below p n ≡ None
lowest_past p m zero le e none = refl
lowest_past p m (suc n) le e none = ⊎_elim
    (λ l. let before = lowest_past p m n (omega (arith, l)) e (λ k a b. none k a (omega (arith, b))) in
    rw (before, none n (omega (arith, l)) (omega arith)) refl)
    (λ g. let same : m ≡ suc n = omega (arith, g, le) in subst (λ k. lowest_below p k ≡ None) same e)
    (cases_lt m (suc n))

-- a number below n with its rank
abbrev pub IsRanked : {R : Type 0} → (ℕ → Option R) → ℕ → Candidate R → Type 0
IsRanked rank n best = (best.number < n) × (rank best.number ≡ Some best.rank)

ranked_more : {R : Type 0} (rank : ℕ → Option R) (n : ℕ) (best : Candidate R) → IsRanked rank n best → IsRanked rank (suc n) best
ranked_more rank n best e = (omega (arith, e.0), e.1)

ranked_new : {R : Type 0} (rank : ℕ → Option R) (n : ℕ) (s : R) (best : Candidate R) → rank n ≡ Some s → Some (record { rank = s; number = n }) ≡ Some best → IsRanked rank (suc n) best
ranked_new {R} rank n s best r f = let made : Candidate R = record { rank = s; number = n } in let same : made ≡ best = cc in rw (← same) (omega arith, r)

ranked_duel : {R : Type 0} (rank : ℕ → Option R) (n : ℕ) (o best : Candidate R) (s : R) → rank n ≡ Some s → (Some o ≡ Some best → IsRanked rank n best) → (w : Bool) →
    cond w (Some (record { rank = s; number = n })) (Some o) ≡ Some best → IsRanked rank (suc n) best
ranked_duel rank n o best s r h true f = ranked_new rank n s best r f
ranked_duel rank n o best s r h false f = ranked_more rank n best (h f)

ranked_step : {R : Type 0} (beats : R → R → Bool) (rank : ℕ → Option R) (n : ℕ) (best : Candidate R) → (o : Option (Candidate R)) → (o ≡ Some best → IsRanked rank n best) →
    (r : Option R) → rank n ≡ r → better beats o r n ≡ Some best → IsRanked rank (suc n) best
ranked_step beats rank n best None h None r f = cc
ranked_step beats rank n best (Some o) h None r f = ranked_more rank n best (h f)
ranked_step beats rank n best None h (Some s) r f = ranked_new rank n s best r f
ranked_step beats rank n best (Some o) h (Some s) r f = ranked_duel rank n o best s r h (beats s o.rank) f

-- the best has its rank
pub best_ranked : {R : Type 0} (beats : R → R → Bool) (rank : ℕ → Option R) (n : ℕ) (best : Candidate R) → best_below beats rank n ≡ Some best → IsRanked rank n best
best_ranked beats rank zero best e = cc
best_ranked beats rank (suc n) best e = ranked_step beats rank n best (best_below beats rank n) (best_ranked beats rank n best) (rank n) refl e
