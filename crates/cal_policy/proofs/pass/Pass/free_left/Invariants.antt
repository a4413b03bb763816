use Rattle.cal_policy.proofs.Common.{◌+◌, ◌-◌, ◌≤◌, length, Begun, setting_in, free_at, IsReady, Stands}
use Rattle.cal_policy.proofs.PassLemmas.PartSoFar.{Reached}
use Rattle.cal_policy.proofs.pass.Pass.free_left.Given as goal

abbrev pub invariant-loop-core : goal.invariant-loop-core
invariant-loop-core l = record {
  acts : (h : Begun) → Stands l.fn.board (setting_in l.self h) l.fn.out →
      Reached (free_at (setting_in l.self h)) (setting_in l.self h) l.fn.out l.out l.board l.first;
  ready : IsReady l.self.config.now l.board;
  length : length l.out ≤ length l.fn.out + l.first;
  first : l.first ≤ l.self.config.now.cores;
}

abbrev pub decreases-loop-core : goal.decreases-loop-core
decreases-loop-core l = l.self.config.now.cores - l.first
