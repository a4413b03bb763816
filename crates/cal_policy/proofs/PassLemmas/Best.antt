-- That what is chosen is the best.
use Rattle.cal_policy.proofs.Common.{◌≡◌, ℕ, ◌<◌, ◌⊎◌, Bool, true, false, cond, Option, Some, None, refl, ap, sym, ◌∙◌, arith, inl, inr, ⊎_elim, zero, suc, MatchOption, cases_lt, cases_Bool, better, best_below, IsBest, Candidate}
use Rattle.std.specs.Cmp.{IsStrictWeakOrder}

-- the best, or that no number has a rank
abbrev pub BestOrNone : {R : Type 0} → (R → R → Bool) → (ℕ → Option R) → ℕ → Option (Candidate R) → Type 0
BestOrNone beats rank n found = MatchOption found ((k : ℕ) → k < n → rank k ≡ None) (IsBest beats rank n)

irreflexive : {R : Type 0} (beats : R → R → Bool) → IsStrictWeakOrder beats → (r : R) → beats r r ≡ false
irreflexive beats o r = ⊎_elim (λ t. o.one_way r r t) (λ f. f) (cases_Bool (beats r r))

pub cases_eq_lt : (k n : ℕ) → k < suc n → (k < n) ⊎ (k ≡ n)
cases_eq_lt k n lt = ⊎_elim (λ l. inl l) (λ g. inr (omega arith)) (cases_lt k n)

challenge : {R : Type 0} (beats : R → R → Bool) (rank : ℕ → Option R) (o : IsStrictWeakOrder beats) (n : ℕ) (best : Candidate R) (s : R) →
    rank n ≡ Some s → IsBest beats rank n best → (b : Bool) → beats s best.rank ≡ b →
    BestOrNone beats rank (suc n) (cond b (Some (record { rank = s; number = n })) (Some best))
challenge beats rank o n best s e h true won = record {
  below = omega arith;
  ranked = e;
  unbeaten = λ k r lt g. ⊎_elim (λ l. o.chain r best.rank s (h.unbeaten k r l g) (o.one_way s best.rank won))
      (λ q. let e2 : rank k ≡ Some s = rw q e in let e3 : r ≡ s = cc in rw e3 (irreflexive beats o s)) (cases_eq_lt k n lt);
  first = λ k r l g. ⊎_elim (λ t. t) (λ f. let no = o.chain s r best.rank f (h.unbeaten k r l g) in cc) (cases_Bool (beats s r));
}
challenge beats rank o n best s e h false lost = record {
  below = omega (arith, h.below);
  ranked = h.ranked;
  unbeaten = λ k r lt g. ⊎_elim (λ l. h.unbeaten k r l g)
      (λ q. let e2 : rank k ≡ Some s = rw q e in let e3 : r ≡ s = cc in rw e3 lost) (cases_eq_lt k n lt);
  first = h.first;
}

best_step : {R : Type 0} (beats : R → R → Bool) (rank : ℕ → Option R) (o : IsStrictWeakOrder beats) (n : ℕ) (found : Option (Candidate R)) (next : Option R) →
    rank n ≡ next → BestOrNone beats rank n found → BestOrNone beats rank (suc n) (better beats found next n)
best_step beats rank o n None None e h = λ k lt. ⊎_elim (λ l. h k l) (λ q. rw q e) (cases_eq_lt k n lt)
best_step beats rank o n (Some best) None e h = record {
  below = omega (arith, h.below);
  ranked = h.ranked;
  unbeaten = λ k r lt g. ⊎_elim (λ l. h.unbeaten k r l g) (λ q. let e2 : rank k ≡ None = rw q e in cc) (cases_eq_lt k n lt);
  first = h.first;
}
best_step beats rank o n None (Some s) e h = record {
  below = omega arith;
  ranked = e;
  unbeaten = λ k r lt g. ⊎_elim (λ l. let e2 = h k l in cc) (λ q. let e2 : rank k ≡ Some s = rw q e in let e3 : r ≡ s = cc in rw e3 (irreflexive beats o s)) (cases_eq_lt k n lt);
  first = λ k r l g. let e2 = h k l in cc;
}
best_step beats rank o n (Some best) (Some s) e h = challenge beats rank o n best s e h (beats s best.rank) refl

-- of the numbers with a rank best_below is the one that no other beats, the least of those
pub best_is_best : {R : Type 0} (beats : R → R → Bool) (rank : ℕ → Option R) → IsStrictWeakOrder beats → (n : ℕ) → BestOrNone beats rank n (best_below beats rank n)
best_is_best beats rank o zero = λ k lt. absurd (omega arith)
best_is_best beats rank o (suc n) = best_step beats rank o n (best_below beats rank n) (rank n) refl (best_is_best beats rank o n)

same_number : {R : Type 0} (beats : R → R → Bool) (rank : ℕ → Option R) (n : ℕ) (a b : Candidate R) → IsBest beats rank n a → IsBest beats rank n b → a.number < b.number → ⊥
same_number beats rank n a b f g lt =
    let won = g.first a.number a.rank lt f.ranked in
    let lost = f.unbeaten b.number b.rank g.below g.ranked in cc

same_best : {R : Type 0} (beats : R → R → Bool) (rank : ℕ → Option R) (n : ℕ) (a b : Candidate R) → IsBest beats rank n a → IsBest beats rank n b → a ≡ b
same_best beats rank n a b f g = ⊎_elim
    (λ l. absurd (same_number beats rank n a b f g l))
    (λ ge. ⊎_elim
    (λ l. absurd (same_number beats rank n b a g f l))
    (λ le. let number : a.number ≡ b.number = omega (arith, ge, le) in
    let ranked : Some a.rank ≡ Some b.rank = sym f.ranked ∙ ap rank number ∙ g.ranked in
    let class : a.rank ≡ b.rank = cc in
    ap (λ k. record { rank = a.rank; number = k }) number ∙ ap (λ r. record { rank = r; number = b.number }) class)
    (cases_lt b.number a.number))
    (cases_lt a.number b.number)

only_best : {R : Type 0} (beats : R → R → Bool) (rank : ℕ → Option R) (n : ℕ) (best : Candidate R) (found : Option (Candidate R)) →
    IsBest beats rank n best → BestOrNone beats rank n found → Some best ≡ found
only_best beats rank n best None e none = let no = none best.number e.below in let yes = e.ranked in cc
only_best beats rank n best (Some found) e f = ap (λ b. Some b) (same_best beats rank n best found e f)

-- and what is the best is best_below
pub best_is : {R : Type 0} (beats : R → R → Bool) (rank : ℕ → Option R) → IsStrictWeakOrder beats → (n : ℕ) (best : Candidate R) → IsBest beats rank n best →
    Some best ≡ best_below beats rank n
best_is beats rank o n best e = only_best beats rank n best (best_below beats rank n) e (best_is_best beats rank o n)
