use Rattle.std.proofs.Common.{rules}
use Rattle.cal_policy.proofs.BoardLemmas.BansKept.{Caps_cap, Caps_same}
use Rattle.cal_policy.proofs.HistoryLemmas.OneMore.{last_cap_push}
use Rattle.cal_policy.proofs.board.caps.Caps.apply.Goals as goal

pub returns-in-Cap : goal.returns-in-Cap
returns-in-Cap c = λ x s. rw c.in-Cap.is (Caps_cap c.args.self.now x _ _ (search rules) (rw c.in-Cap.is at c.requires.names) s)

pub returns-in-Free : goal.returns-in-Free
returns-in-Free c = λ x s. rw c.in-Free.is (Caps_same c.args.self.now x _ (λ k. last_cap_push x _ k) s)

pub returns-in-Unban : goal.returns-in-Unban
returns-in-Unban c = λ x s. rw c.in-Unban.is (Caps_same c.args.self.now x _ (λ k. last_cap_push x _ k) s)

pub returns-in-Ban : goal.returns-in-Ban
returns-in-Ban c = λ x s. rw c.in-Ban.is (Caps_same c.args.self.now x _ (λ k. last_cap_push x _ k) s)

pub returns-in-Revoke : goal.returns-in-Revoke
returns-in-Revoke c = λ x s. rw c.in-Revoke.is (Caps_same c.args.self.now x _ (λ k. last_cap_push x _ k) s)

pub returns-in-Grant : goal.returns-in-Grant
returns-in-Grant c = λ x s. rw c.in-Grant.is (Caps_same c.args.self.now x _ (λ k. last_cap_push x _ k) s)
