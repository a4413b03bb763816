use Rattle.cal_policy.proofs.HistoryLemmas.FreshCores.{Fresh_same, Fresh_grant}
use Rattle.cal_policy.proofs.HistoryLemmas.OneMore.{last_thread_push}
use Rattle.cal_policy.proofs.board.note_grant.Goals as goal

pub returns-in-Grant : goal.returns-in-Grant
returns-in-Grant c = λ acts s. rw c.in-Grant.is (Fresh_grant c.args.fresh.now _ acts _ _ _ c.insert.ensures s)

pub returns-in-Free : goal.returns-in-Free
returns-in-Free c = λ acts s. rw c.in-Free.is (Fresh_same c.args.fresh.now acts _ (λ k. last_thread_push acts _ k) s)

pub returns-in-Unban : goal.returns-in-Unban
returns-in-Unban c = λ acts s. rw c.in-Unban.is (Fresh_same c.args.fresh.now acts _ (λ k. last_thread_push acts _ k) s)

pub returns-in-Ban : goal.returns-in-Ban
returns-in-Ban c = λ acts s. rw c.in-Ban.is (Fresh_same c.args.fresh.now acts _ (λ k. last_thread_push acts _ k) s)

pub returns-in-Revoke : goal.returns-in-Revoke
returns-in-Revoke c = λ acts s. rw c.in-Revoke.is (Fresh_same c.args.fresh.now acts _ (λ k. last_thread_push acts _ k) s)

pub returns-in-Cap : goal.returns-in-Cap
returns-in-Cap c = λ acts s. rw c.in-Cap.is (Fresh_same c.args.fresh.now acts _ (λ k. last_thread_push acts _ k) s)
