use Rattle.cal_guard.proofs.Common.{◌≡◌, List, None, Action, Agrees, lowest_below}
use Rattle.cal_guard.specs.Refusals as refusals
use Rattle.cal_guard.proofs.passing.lowest_left_over.Given as goal

abbrev pub invariant-loop-task : goal.invariant-loop-task
invariant-loop-task l = (x : List Action) → Agrees l.board x → lowest_below (refusals.is_left_over l.config x l.revoked) l.task ≡ None
