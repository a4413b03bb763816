use Rattle.cal_policy.proofs.Common.{subst, IsBanReason, Setting, so_far}
use Rattle.cal_policy.proofs.explain.walk.PassWalk.ban_reason.Goals as goal

pub returns-clause-reason : goal.returns-clause-reason
returns-clause-reason c = λ h w.
    let made = c.args.self.now.made.items in
    let P : Setting → Type 0 = λ s. IsBanReason s (so_far s made) c.args.core c.reason_of_ban.result in
    subst P (c.pass.ensures.setting h) (c.reason_of_ban.ensures.reason h made (rw c.deref.ensures (c.pass.ensures.stands h w)))
