use Rattle.std.proofs.Common.{rules, refl}
use Rattle.cal_world.proofs.WorldLemmas.Sent.{granted_new, granted_same}
use Rattle.cal_world.proofs.world.sending.note_grant.Goals as goal

pub returns-in-Grant : goal.returns-in-Grant
returns-in-Grant c = λ x h. rw c.in-Grant.is (granted_new c.args.granted.now x c.in-Grant.core c.in-Grant.thread c.in-Grant.class (search rules) h)

pub returns-in-Free : goal.returns-in-Free
returns-in-Free c = λ x h. rw c.in-Free.is (granted_same c.args.granted.now x _ (λ t. refl) h)

pub returns-in-Revoke : goal.returns-in-Revoke
returns-in-Revoke c = λ x h. rw c.in-Revoke.is (granted_same c.args.granted.now x _ (λ t. refl) h)

pub returns-in-Unban : goal.returns-in-Unban
returns-in-Unban c = λ x h. rw c.in-Unban.is (granted_same c.args.granted.now x _ (λ t. refl) h)

pub returns-in-Ban : goal.returns-in-Ban
returns-in-Ban c = λ x h. rw c.in-Ban.is (granted_same c.args.granted.now x _ (λ t. refl) h)

pub returns-in-Cap : goal.returns-in-Cap
returns-in-Cap c = λ x h. rw c.in-Cap.is (granted_same c.args.granted.now x _ (λ t. refl) h)
