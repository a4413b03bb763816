-- What is said of each thread, when the look at one more is taken.
use Rattle.cal_policy.proofs.Common.{◌≡◌, ◌≢◌, ℕ, ◌+◌, ◌<◌, ◌≤◌, true, false, cond, Option, None, refl, ap, sym, ◌∙◌, arith, eqb, ◌⊎◌, inl, inr, ⊎_elim, unwrap_or, cases_eq, cases_lt, nat_tests}

at_itself : {Y : Type 0} (k : ℕ) (a b : Y) → cond (eqb k k) a b ≡ a
at_itself k a b = let e : eqb k k ≡ true = grind (arith, nat_tests) in rw e refl

at_another : {Y : Type 0} (j k : ℕ) (a b : Y) → j ≢ k → cond (eqb j k) a b ≡ b
at_another j k a b off = let e : eqb j k ≡ false = grind (arith, nat_tests) in rw e refl

done_by : {Y : Type 0} (new cur old : ℕ → Y) (give : ℕ → Option Y) (k : ℕ) (v : Option Y) → give k ≡ v →
    ((j : ℕ) → j < 128 → new j ≡ cond (eqb j k) (unwrap_or v (cur j)) (cur j)) → k < 128 →
    ((j : ℕ) → j < k → cur j ≡ unwrap_or (give j) (old j)) → ((j : ℕ) → k ≤ j → j < 128 → cur j ≡ old j) →
    (j : ℕ) → j < k + 1 → (j ≡ k) ⊎ (j ≢ k) → new j ≡ unwrap_or (give j) (old j)
done_by new cur old give k v e one lt done left j low (inl same) = rw (same, e)
    (one k lt ∙ at_itself k (unwrap_or v (cur k)) (cur k) ∙ ap (unwrap_or v) (left k (omega arith) lt))
done_by new cur old give k v e one lt done left j low (inr off) =
    one j (omega (arith, low, lt)) ∙ at_another j k (unwrap_or v (cur j)) (cur j) off ∙ done j (omega (arith, off, low))

-- those up to it are as its looks say
pub done_one_more : {Y : Type 0} (new cur old : ℕ → Y) (give : ℕ → Option Y) (k : ℕ) (v : Option Y) → give k ≡ v →
    ((j : ℕ) → j < 128 → new j ≡ cond (eqb j k) (unwrap_or v (cur j)) (cur j)) → k < 128 →
    ((j : ℕ) → j < k → cur j ≡ unwrap_or (give j) (old j)) → ((j : ℕ) → k ≤ j → j < 128 → cur j ≡ old j) →
    (j : ℕ) → j < k + 1 → new j ≡ unwrap_or (give j) (old j)
done_one_more new cur old give k v e one lt done left j low = done_by new cur old give k v e one lt done left j low (cases_eq j k)

-- those after it are as they were
pub left_one_less : {Y : Type 0} (new cur old : ℕ → Y) (given : ℕ → Y) (k : ℕ) →
    ((j : ℕ) → j < 128 → new j ≡ cond (eqb j k) (given j) (cur j)) → ((j : ℕ) → k ≤ j → j < 128 → cur j ≡ old j) →
    (j : ℕ) → k + 1 ≤ j → j < 128 → new j ≡ old j
left_one_less new cur old given k one left j high lt =
    let off : j ≢ k = λ same. omega (arith, same, high) in
    one j lt ∙ at_another j k (given j) (cur j) off ∙ left j (omega (arith, high)) lt

-- where no look is left, each is as its look says, if it has one
pub all_done : {Y : Type 0} (new old : ℕ → Y) (give : ℕ → Option Y) (k : ℕ) →
    ((j : ℕ) → j < k → new j ≡ unwrap_or (give j) (old j)) → ((j : ℕ) → k ≤ j → j < 128 → new j ≡ old j) →
    ((j : ℕ) → k ≤ j → give j ≡ None) → (j : ℕ) → j < 128 → new j ≡ unwrap_or (give j) (old j)
all_done new old give k done left none j lt =
    ⊎_elim (λ low. done j low) (λ high. left j high lt ∙ sym (ap (λ o. unwrap_or o (old j)) (none j high))) (cases_lt j k)
