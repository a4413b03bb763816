use Rattle.std.proofs.Common.{rules, refl}
use Rattle.cal_measure.proofs.SpanLemmas.BansKept.{bans-unban, bans-ban, bans-other}
use Rattle.cal_measure.proofs.spans.bans.note_ban.Goals as goal

pub returns-in-Unban : goal.returns-in-Unban
returns-in-Unban c = λ moves h. rw c.in-Unban.is (bans-unban c.args.under.now moves c.args.pass c.in-Unban.core (search rules) (search rules) h)

pub returns-in-Ban : goal.returns-in-Ban
returns-in-Ban c = λ moves h. rw (c.in-Ban.is, c.banned.ensures) (bans-ban c.args.under.now moves c.args.pass c.in-Ban.core c.in-Ban.thread c.in-Ban.started (search rules) (search rules) h)

pub returns-in-Free : goal.returns-in-Free
returns-in-Free c = λ moves h. rw c.in-Free.is (bans-other c.args.under.now moves c.args.pass _ (λ k ban. refl) h)

pub returns-in-Revoke : goal.returns-in-Revoke
returns-in-Revoke c = λ moves h. rw c.in-Revoke.is (bans-other c.args.under.now moves c.args.pass _ (λ k ban. refl) h)

pub returns-in-Cap : goal.returns-in-Cap
returns-in-Cap c = λ moves h. rw c.in-Cap.is (bans-other c.args.under.now moves c.args.pass _ (λ k ban. refl) h)

pub returns-in-Grant : goal.returns-in-Grant
returns-in-Grant c = λ moves h. rw c.in-Grant.is (bans-other c.args.under.now moves c.args.pass _ (λ k ban. refl) h)
