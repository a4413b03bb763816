use Rattle.cal_policy.proofs.Common.{◌≡◌, List, Action, holder_of, is_with, count_below, Agrees}
use Rattle.cal_policy.proofs.board.cores.has_no_core.Given as goal

abbrev pub invariant-loop-core : goal.invariant-loop-core
invariant-loop-core l = (x : List Action) → Agrees l.board x → count_below (λ c. is_with l.k (holder_of x c)) l.core ≡ 0
