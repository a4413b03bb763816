use Rattle.cal_policy.proofs.Common.{subst, IsKeeping, Setting, so_far}
use Rattle.cal_policy.proofs.explain.walk.PassWalk.keeping.Goals as goal

pub returns : goal.returns
returns c = λ h w.
    let made = c.args.self.now.made.items in
    let P : Setting → Type 0 = λ s. IsKeeping s (so_far s made) c.args.task c.args.core c.keeping_of.result in
    subst P (c.pass.ensures.setting h) (c.keeping_of.ensures h made (rw c.deref.ensures (c.pass.ensures.stands h w)))
