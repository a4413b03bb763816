-- The cores where a thread comes to a whole turn's work.
use Rattle.cal_paced.proofs.Common.{◌≡◌, ℕ, ◌+◌, ◌<◌, ◌≤◌, Bool, true, false, nat_le, if◌then◌else◌, refl, ◌&&◌, arith, nat_lt, nat_tests, MOST_CORES, WHOLE}

-- where it does not come to one beside a thread at work, and does alone: those that are clear
pub only-clear : (core saved alone beside : ℕ) (clear : Bool) → (clear ≡ true → core < MOST_CORES) → saved + beside < WHOLE → WHOLE ≤ saved + alone
    → clear ≡ (nat_lt core MOST_CORES && nat_le WHOLE (saved + (if clear then alone else beside)))
only-clear core saved alone beside true low less more = let within = low refl in grind (arith, nat_tests)
only-clear core saved alone beside false low less more = grind (arith, nat_tests)
