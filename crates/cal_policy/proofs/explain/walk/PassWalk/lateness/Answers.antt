use Rattle.cal_policy.proofs.Common.{subst, IsLateness, Setting, so_far}
use Rattle.cal_policy.proofs.explain.walk.PassWalk.lateness.Goals as goal

pub returns : goal.returns
returns c = λ h w.
    let made = c.args.self.now.made.items in
    let P : Setting → Type 0 = λ s. IsLateness s (so_far s made) c.args.thread c.lateness_of.result in
    subst P (c.pass.ensures.setting h) (c.lateness_of.ensures h made (rw c.deref.ensures (c.pass.ensures.stands h w)))
