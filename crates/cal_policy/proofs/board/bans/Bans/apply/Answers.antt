use Rattle.std.proofs.Common.{rules}
use Rattle.cal_policy.proofs.BoardLemmas.BansKept.{Bans_ban, Bans_unban, Bans_same}
use Rattle.cal_policy.proofs.HistoryLemmas.OneMore.{ban_push}
use Rattle.cal_policy.proofs.board.bans.Bans.apply.Goals as goal

pub returns-in-Ban-clause-agree : goal.returns-in-Ban-clause-agree
returns-in-Ban-clause-agree c = λ x s. rw c.in-Ban.is (let t = rw c.in-Ban.is at c.requires.names in Bans_ban c.args.self.now x _ _ _ (search rules) t.0 s)

pub returns-in-Unban-clause-agree : goal.returns-in-Unban-clause-agree
returns-in-Unban-clause-agree c = λ x s. rw c.in-Unban.is (Bans_unban c.args.self.now x _ (search rules) (rw c.in-Unban.is at c.requires.names) s)

pub returns-in-Free-clause-agree : goal.returns-in-Free-clause-agree
returns-in-Free-clause-agree c = λ x s. rw c.in-Free.is (Bans_same c.args.self.now x _ (λ k. ban_push x _ k) s)

pub returns-in-Revoke-clause-agree : goal.returns-in-Revoke-clause-agree
returns-in-Revoke-clause-agree c = λ x s. rw c.in-Revoke.is (Bans_same c.args.self.now x _ (λ k. ban_push x _ k) s)

pub returns-in-Cap-clause-agree : goal.returns-in-Cap-clause-agree
returns-in-Cap-clause-agree c = λ x s. rw c.in-Cap.is (Bans_same c.args.self.now x _ (λ k. ban_push x _ k) s)

pub returns-in-Grant-clause-agree : goal.returns-in-Grant-clause-agree
returns-in-Grant-clause-agree c = λ x s. rw c.in-Grant.is (Bans_same c.args.self.now x _ (λ k. ban_push x _ k) s)
