use Rattle.cal_policy.proofs.Common.{◌≡◌, ℕ, ◌<◌, true, has}
use Rattle.cal_policy.proofs.board.core_sets.all_cores.Given as goal

abbrev pub invariant-loop-core : goal.invariant-loop-core
invariant-loop-core l = (c : ℕ) → c < l.core → has l.cores c ≡ true
