use Rattle.cal_policy.proofs.Common.{◌≡◌, ◌<◌, ◌≤◌, ◌-◌, List, IfSome, Action, Begun, comes_before, best_below, class_among, Stands, setting_in}
use Rattle.cal_policy.proofs.pass.Pass.choose_among.Given as goal

abbrev pub invariant-loop-core : goal.invariant-loop-core
invariant-loop-core l = record {
  choice : (h : Begun) (acts : List Action) → Stands l.board (setting_in l.self h) acts →
      l.best ≡ best_below comes_before (class_among l.cores (setting_in l.self h) acts l.task) l.first;
  below : IfSome l.best (λ best. best.number < l.first);
  first : l.first ≤ l.self.config.now.cores;
}

abbrev pub decreases-loop-core : goal.decreases-loop-core
decreases-loop-core l = l.self.config.now.cores - l.first
