use Rattle.cal_guard.specs.Guarded.{board_in}
use Rattle.cal_policy.specs.State.{IsReady}
use Rattle.example_guest.proofs.show.Given as goal

abbrev pub invariant-loop-made : goal.invariant-loop-made
invariant-loop-made g l = IsReady l.config (board_in l.guard)
