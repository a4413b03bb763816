use Rattle.cal_guard.specs.Guarded.{board_in}
use Rattle.cal_policy.specs.State.{IsReady}
use Rattle.cal_policy.specs.Board.{HasSizes}
use Rattle.test_policy.proofs.guard.refusals.offers.Given as goal

abbrev pub invariant-loop-group : goal.invariant-loop-group
invariant-loop-group l = record {
  of : IsReady l.config (board_in l.guard);
  sizes : HasSizes l.config l.input;
}
