use Rattle.std.proofs.Common.{rules, refl}
use Rattle.cal_measure.proofs.SpanLemmas.StaysKept.{stays-free, stays-grant, stays-revoke, stays-other}
use Rattle.cal_measure.proofs.spans.tracking.note_stay.Goals as goal

pub returns-in-Free : goal.returns-in-Free
returns-in-Free c = λ moves h. rw c.in-Free.is (stays-free c.args.stays.now moves c.args.pass c.in-Free.core (search rules) (search rules) h)

pub returns-in-Revoke : goal.returns-in-Revoke
returns-in-Revoke c = λ moves h. rw (c.in-Revoke.is, c.revoked.ensures) (stays-revoke c.args.stays.now moves c.args.pass c.in-Revoke.core c.in-Revoke.cause (search rules) (search rules) h)

pub returns-in-Grant : goal.returns-in-Grant
returns-in-Grant c = λ moves h. rw (c.in-Grant.is, c.granted.ensures) (stays-grant c.args.stays.now moves c.args.pass c.in-Grant.core c.in-Grant.thread c.in-Grant.class (search rules) (search rules) h)

pub returns-in-Unban : goal.returns-in-Unban
returns-in-Unban c = λ moves h. rw c.in-Unban.is (stays-other c.args.stays.now moves c.args.pass _ (λ k stay. refl) h)

pub returns-in-Ban : goal.returns-in-Ban
returns-in-Ban c = λ moves h. rw c.in-Ban.is (stays-other c.args.stays.now moves c.args.pass _ (λ k stay. refl) h)

pub returns-in-Cap : goal.returns-in-Cap
returns-in-Cap c = λ moves h. rw c.in-Cap.is (stays-other c.args.stays.now moves c.args.pass _ (λ k stay. refl) h)
