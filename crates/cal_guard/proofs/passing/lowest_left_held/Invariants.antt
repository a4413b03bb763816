use Rattle.cal_guard.proofs.Common.{◌≡◌, ◌≤◌, ◌-◌, List, None, Action, Agrees, lowest_below}
use Rattle.cal_guard.specs.Refusals as refusals
use Rattle.cal_guard.proofs.passing.lowest_left_held.Given as goal

abbrev pub invariant-loop-core : goal.invariant-loop-core
invariant-loop-core l = record {
  none : (x : List Action) → Agrees l.board x → lowest_below (refusals.is_left_held x l.revoked) l.first ≡ None;
  first : l.first ≤ l.config.cores;
}

abbrev pub decreases-loop-core : goal.decreases-loop-core
decreases-loop-core l = l.config.cores - l.first
