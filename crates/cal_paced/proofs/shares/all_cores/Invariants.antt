use Rattle.cal_paced.proofs.Common.{◌≡◌, ℕ, nat_lt, has}
use Rattle.cal_paced.proofs.shares.all_cores.Given as goal

-- the cores so far
abbrev pub invariant-loop-core : goal.invariant-loop-core
invariant-loop-core l = (c : ℕ) → has l.all c ≡ nat_lt c l.core
