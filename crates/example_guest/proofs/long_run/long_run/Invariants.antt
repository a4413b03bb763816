use Rattle.cal_guard.specs.Guarded.{board_in}
use Rattle.cal_policy.specs.State.{IsReady}
use Rattle.example_guest.proofs.long_run.long_run.Given as goal

abbrev pub invariant-loop-i : goal.invariant-loop-i
invariant-loop-i l = IsReady l.config (board_in l.guard)
