use Rattle.cal_policy.specs.Explain.Walks.{IsWalk}
use Rattle.cal_explain.proofs.explaining.tell_pass.Given as goal

abbrev pub invariant-loop-n : goal.invariant-loop-n
invariant-loop-n g l = IsWalk l.walk
