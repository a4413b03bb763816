use Rattle.cal_policy.proofs.Common.{◌≡◌, ◌+◌, ◌-◌, ◌≤◌, length, first_thread, Begun, setting_in, count_below, grant_of_kind_at, is_of_kind, IsReady, Stands}
use Rattle.cal_policy.proofs.PassLemmas.PartSoFar.{Reached}
use Rattle.cal_policy.proofs.pass.Pass.grants_of_kind.Given as goal

abbrev pub invariant-loop-waiting : goal.invariant-loop-waiting
invariant-loop-waiting l = record {
  acts : (h : Begun) → Stands l.fn.board (setting_in l.self h) l.fn.out →
      Reached (grant_of_kind_at l.kind (setting_in l.self h)) (setting_in l.self h) l.fn.out l.out l.board l.reached;
  ready : IsReady l.self.config.now l.board;
  reached : l.reached ≤ length l.self.config.now.tasks;
  first : l.first ≡ first_thread l.self.config.now.tasks l.reached;
  length : length l.out ≤ length l.fn.out + count_below (is_of_kind l.kind l.self.config.now) l.reached;
}

abbrev pub decreases-loop-waiting : goal.decreases-loop-waiting
decreases-loop-waiting l = l.threads - l.first
