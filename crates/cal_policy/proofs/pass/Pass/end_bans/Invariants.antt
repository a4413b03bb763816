use Rattle.cal_policy.proofs.Common.{◌+◌, ◌-◌, ◌*◌, ◌≤◌, length, Begun, so_far, in_pair, setting_in, NoPairBanned, unban_at_by, IsReady, Stands}
use Rattle.cal_policy.proofs.PassLemmas.PartSoFar.{Reached}
use Rattle.cal_policy.specs.Pass.Counted.{Counts}
use Rattle.cal_policy.proofs.pass.Pass.end_bans.Given as goal

abbrev pub invariant-loop-core : goal.invariant-loop-core
invariant-loop-core l = record {
  acts : (h : Begun) → let s = setting_in l.self h in NoPairBanned (so_far s l.fn.out) → Stands l.fn.board s l.fn.out →
      Reached (in_pair (unban_at_by l.self.terms.now.policy s)) s l.fn.out l.out l.board l.next;
  apart : (h : Begun) → let s = setting_in l.self h in NoPairBanned (so_far s l.fn.out) → Stands l.fn.board s l.fn.out →
      NoPairBanned (so_far s l.out);
  counted : (h : Begun) → let s = setting_in l.self h in NoPairBanned (so_far s l.fn.out) → Stands l.fn.board s l.fn.out →
      Counts s (so_far s l.out) l.counted;
  ready : IsReady l.self.config.now l.board;
  length : length l.out ≤ length l.fn.out + l.next;
  next : 2 * l.next ≤ l.self.config.now.cores;
}

abbrev pub decreases-loop-core : goal.decreases-loop-core
decreases-loop-core l = l.self.config.now.cores - l.next
