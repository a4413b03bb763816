use Rattle.cal_policy.proofs.Common.{◌≡◌, ◌≤◌, ◌-◌, ◌&&◌, List, Action, is_untaken, holder_of, setting_in, count_below, is_granted_in, Begun, so_far, kept_now, Stands}
use Rattle.cal_policy.proofs.pass.Pass.is_new_in_flight.Given as goal

abbrev pub invariant-loop-core : goal.invariant-loop-core
invariant-loop-core l = record {
  none : (h : Begun) (acts : List Action) → let s = setting_in l.self h in Stands l.board s acts →
      count_below (λ c. is_granted_in acts c && is_untaken (kept_now s l.thread) l.thread (holder_of (so_far s acts) c)) l.first ≡ 0;
  first : l.first ≤ l.self.config.now.cores;
}

abbrev pub decreases-loop-core : goal.decreases-loop-core
decreases-loop-core l = l.self.config.now.cores - l.first
