use Rattle.cal_policy.specs.Explain.Walks.{IsWalk}
use Rattle.cal_explain.proofs.difference.walk_to.Given as goal

abbrev pub invariant-loop-n : goal.invariant-loop-n
invariant-loop-n l = IsWalk l.walk
