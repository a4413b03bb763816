use Rattle.cal_policy.proofs.Common.{◌≡◌, ◌≤◌, ◌-◌, List, None, Action, lowest_below, is_beside_own, Agrees}
use Rattle.cal_policy.proofs.pass.Pass.idle_beside.Given as goal

abbrev pub invariant-loop-core : goal.invariant-loop-core
invariant-loop-core l = record {
  none : (x : List Action) → Agrees l.board x → lowest_below (is_beside_own l.board.open_cores.idle l.self.config.now x l.task) l.from ≡ None;
  first : l.from ≤ l.self.config.now.cores;
}

abbrev pub decreases-loop-core : goal.decreases-loop-core
decreases-loop-core l = l.self.config.now.cores - l.from
