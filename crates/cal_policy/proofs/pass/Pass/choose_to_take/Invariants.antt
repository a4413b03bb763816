use Rattle.cal_policy.proofs.Common.{◌≡◌, ◌<◌, ◌≤◌, ◌-◌, List, IfSome, Action, class_to_take, comes_before, setting_in, best_below, Begun, so_far, Stands}
use Rattle.cal_policy.proofs.pass.Pass.choose_to_take.Given as goal

abbrev pub invariant-loop-core : goal.invariant-loop-core
invariant-loop-core l = record {
  choice : (h : Begun) (acts : List Action) → let s = setting_in l.self h in Stands l.board s acts → l.best ≡ best_below comes_before (class_to_take l.owed s (so_far s acts) l.task) l.first;
  below : IfSome l.best (λ best. best.number < l.first);
  first : l.first ≤ l.self.config.now.cores;
}

abbrev pub decreases-loop-core : goal.decreases-loop-core
decreases-loop-core l = l.self.config.now.cores - l.first
