-- Numbers of commands as they are kept: at most 2^64.
use Rattle.cal_policy.proofs.Common.{◌≡◌, ℕ, ◌+◌, ◌<◌, ◌^◌, leb, min, arith, nat_tests, kept_number}

-- one command more
pub kept_more : (n : ℕ) → min (kept_number n + 1) (2 ^ 64) ≡ kept_number (n + 1)
kept_more n = omega arith

-- a record's count is below 2^64, so a kept number is at most it exactly where the number is
pub kept_le : (n taken : ℕ) → taken < 2 ^ 64 → leb (kept_number n) taken ≡ leb n taken
kept_le n taken lt = grind (arith, nat_tests)
