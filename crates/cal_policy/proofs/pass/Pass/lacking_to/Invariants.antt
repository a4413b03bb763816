use Rattle.cal_policy.proofs.Common.{◌≡◌, ◌*◌, ◌-◌, ◌≤◌, List, length, first_thread, Action, lacks_waiting, setting_in, sum_below, Begun, so_far, Stands}
use Rattle.cal_policy.proofs.pass.Pass.lacking_to.Given as goal

abbrev pub invariant-loop-waiting : goal.invariant-loop-waiting
invariant-loop-waiting l = record {
  sum : (h : Begun) (acts : List Action) → let s = setting_in l.self h in Stands l.board s acts →
      l.lacking ≡ sum_below (lacks_waiting s (so_far s acts)) l.reached;
  small : l.lacking ≤ l.reached * 255;
  most : l.reached ≤ 16;
  reached : l.reached ≤ length l.self.config.now.tasks;
  first : l.first ≡ first_thread l.self.config.now.tasks l.reached;
}

abbrev pub decreases-loop-waiting : goal.decreases-loop-waiting
decreases-loop-waiting l = l.threads - l.first
