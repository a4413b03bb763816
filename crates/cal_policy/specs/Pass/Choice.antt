-- Counts and choices among the numbers below n.
use Rattle.std.specs.Prelude.{◌≡◌, ℕ, ◌+◌, ◌<◌, Bool, true, false, suc}
use Rattle.std.specs.Prelude.{zero, max, Option, Some, None, if◌then◌else◌}
use Rattle.cal_policy.specs.declared.pass.choice.Candidate.{Candidate}

-- how many numbers below n pass
abbrev pub count_below : (ℕ → Bool) → ℕ → ℕ
count_below p zero = 0
count_below p (suc n) = count_below p n + (if p n then 1 else 0)

-- the sum of f at the numbers below n
abbrev pub sum_below : (ℕ → ℕ) → ℕ → ℕ
sum_below f zero = 0
sum_below f (suc n) = sum_below f n + f n

-- the greatest of f at the numbers below n, 0 where there is none
abbrev pub greatest_below : (ℕ → ℕ) → ℕ → ℕ
greatest_below f zero = 0
greatest_below f (suc n) = max (greatest_below f n) (f n)

-- the highest number below n that passes
abbrev pub highest_below : (ℕ → Bool) → ℕ → Option ℕ
highest_below p zero = None
highest_below p (suc n) = if p n then Some n else highest_below p n

-- the one so far, where there is one, else the next, where it passes
abbrev pub first_or : Option ℕ → Bool → ℕ → Option ℕ
first_or (Some k) passes n = Some k
first_or None passes n = if passes then Some n else None

-- the lowest number below n that passes
abbrev pub lowest_below : (ℕ → Bool) → ℕ → Option ℕ
lowest_below p zero = None
lowest_below p (suc n) = first_or (lowest_below p n) (p n) n

-- the one so far, unless the next beats it
abbrev pub better : {R : Type 0} → (R → R → Bool) → Option (Candidate R) → Option R → ℕ →
    Option (Candidate R)
better beats best None n = best
better beats None (Some rank) n = Some (record { rank = rank; number = n })
better beats (Some best) (Some rank) n =
    if beats rank best.rank then Some (record { rank = rank; number = n }) else Some best

-- of the numbers below n that have a rank, the one whose rank no other beats, and of those with
-- that rank the least
abbrev pub best_below : {R : Type 0} → (R → R → Bool) → (ℕ → Option R) → ℕ → Option (Candidate R)
best_below beats rank zero = None
best_below beats rank (suc n) = better beats (best_below beats rank n) (rank n) n

-- what the best is: it has that rank, no other's rank beats it, and it beats that of each lesser
-- number
pub record IsBest {R : Type 0} (beats : R → R → Bool) (rank : ℕ → Option R) (n : ℕ)
    (best : Candidate R) : Type 0 where
  pub below : best.number < n
  pub ranked : rank best.number ≡ Some best.rank
  pub unbeaten : (k : ℕ) (r : R) → k < n → rank k ≡ Some r → beats r best.rank ≡ false
  pub first : (k : ℕ) (r : R) → k < best.number → rank k ≡ Some r → beats best.rank r ≡ true
