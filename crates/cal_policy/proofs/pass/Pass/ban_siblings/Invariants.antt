use Rattle.cal_policy.proofs.Common.{◌≡◌, false, ◌+◌, ◌-◌, ◌*◌, ◌≤◌, length, Begun, in_pair, setting_in, bans_at_by, IsReady, Stands, NoneOver}
use Rattle.cal_policy.proofs.PassLemmas.PartSoFar.{Reached}
use Rattle.cal_policy.proofs.pass.Pass.ban_siblings.Given as goal

abbrev pub invariant-loop-core : goal.invariant-loop-core
invariant-loop-core l = record {
  acts : (h : Begun) → let s = setting_in l.self h in Stands l.fn.board s l.fn.out →
      Reached (in_pair (bans_at_by l.self.terms.now.policy s)) s l.fn.out l.out l.board l.next;
  ready : IsReady l.self.config.now l.board;
  over : l.over ≡ false → NoneOver l.self.config.now l.board;
  length : length l.out ≤ length l.fn.out + 2 * l.next;
  next : 2 * l.next ≤ l.self.config.now.cores;
}

abbrev pub decreases-loop-core : goal.decreases-loop-core
decreases-loop-core l = l.self.config.now.cores - l.next
