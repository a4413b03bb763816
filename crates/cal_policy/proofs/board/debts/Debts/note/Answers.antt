use Rattle.cal_policy.proofs.Common.{rules, ap, core_changed}
use Rattle.cal_policy.proofs.BoardLemmas.DebtsKept.{Debts_free, Debts_revoke, Debts_grant, Debts_same, owed_push}
use Rattle.cal_policy.proofs.board.debts.Debts.note.Goals as goal

pub returns-in-Free : goal.returns-in-Free
returns-in-Free c = λ x s before.
    let is = before c.in-Free.core (ap core_changed c.in-Free.is) in
    rw (c.in-Free.is, c.left_for.ensures) (Debts_free c.args.self.now x c.in-Free.core c.args.before (search rules) (rw c.in-Free.is at c.requires) s is)

pub returns-in-Revoke : goal.returns-in-Revoke
returns-in-Revoke c = λ x s before. rw c.in-Revoke.is (Debts_revoke c.args.self.now x _ _ (search rules) (rw c.in-Revoke.is at c.requires) s)

pub returns-in-Grant : goal.returns-in-Grant
returns-in-Grant c = λ x s before. rw c.in-Grant.is (let t = rw c.in-Grant.is at c.requires in Debts_grant c.args.self.now x _ _ _ (search rules) t.0 s)

pub returns-in-Unban : goal.returns-in-Unban
returns-in-Unban c = λ x s before. rw c.in-Unban.is (Debts_same c.args.self.now x _ (λ k. owed_push x _ k) s)

pub returns-in-Ban : goal.returns-in-Ban
returns-in-Ban c = λ x s before. rw c.in-Ban.is (Debts_same c.args.self.now x _ (λ k. owed_push x _ k) s)

pub returns-in-Cap : goal.returns-in-Cap
returns-in-Cap c = λ x s before. rw c.in-Cap.is (Debts_same c.args.self.now x _ (λ k. owed_push x _ k) s)
