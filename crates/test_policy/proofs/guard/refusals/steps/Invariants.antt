use Rattle.cal_guard.specs.Guarded.{board_in}
use Rattle.cal_policy.specs.State.{IsReady}
use Rattle.test_policy.proofs.guard.refusals.steps.Given as goal

abbrev pub invariant-loop-k : goal.invariant-loop-k
invariant-loop-k l = IsReady l.config (board_in l.guard)
