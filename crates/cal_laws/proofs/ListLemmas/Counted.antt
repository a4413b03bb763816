-- How counts and choices among the numbers below n go with their tests.
use Rattle.cal_laws.proofs.Common.{◌≡◌, ℕ, ◌<◌, ◌≤◌, Bool, true, false, cond, refl, arith, count_below}
use Rattle.cal_policy.proofs.ListLemmas.Counted.{one_when}
use Rattle.cal_policy.proofs.ListLemmas.OneNumberMore.{count_within}

pub count_some : (p : ℕ → Bool) (k n : ℕ) → k < n → p k ≡ true → 0 < count_below p n
count_some p k n lt e = omega (arith, count_within p k n lt, one_when (p k) e)

none_or : (b : Bool) → cond b 1 0 ≤ 0 → b ≡ false
none_or true e = absurd (omega arith)
none_or false e = refl

-- where none is counted, none passes
pub count_none : (p : ℕ → Bool) (k n : ℕ) → k < n → count_below p n ≡ 0 → p k ≡ false
count_none p k n lt e = none_or (p k) (omega (arith, count_within p k n lt))
