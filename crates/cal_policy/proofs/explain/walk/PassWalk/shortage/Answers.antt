use Rattle.cal_policy.proofs.Common.{subst, IsShortage, Setting, so_far}
use Rattle.cal_policy.proofs.explain.walk.PassWalk.shortage.Goals as goal

pub returns : goal.returns
returns c = λ h w.
    let made = c.args.self.now.made.items in
    let P : Setting → Type 0 = λ s. IsShortage s (so_far s made) c.shortage_of.result in
    subst P (c.pass.ensures.setting h) (c.shortage_of.ensures h made (rw c.deref.ensures (c.pass.ensures.stands h w)))
