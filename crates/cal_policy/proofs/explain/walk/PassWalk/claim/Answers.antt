use Rattle.cal_policy.proofs.Common.{subst, IsClaim, Setting}
use Rattle.cal_policy.proofs.explain.walk.PassWalk.claim.Goals as goal

pub returns : goal.returns
returns c = λ h w.
    let made = c.args.self.now.made.items in
    let P : Setting → Type 0 = λ s. IsClaim s made c.args.task c.claim_of.result in
    subst P (c.pass.ensures.setting h) (c.claim_of.ensures h made (rw c.deref.ensures (c.pass.ensures.stands h w)) c.made.ensures.made)
