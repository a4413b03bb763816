use Rattle.cal_policy.proofs.Common.{◌≡◌, subst, class_of, Setting}
use Rattle.cal_policy.proofs.explain.walk.PassWalk.class.Goals as goal

pub returns : goal.returns
returns c = λ h w.
    let made = c.args.self.now.made.items in
    let P : Setting → Type 0 = λ s. c.class_of.result ≡ class_of s made c.args.task c.args.core in
    subst P (c.pass.ensures.setting h) (c.class_of.ensures h made (rw c.deref.ensures (c.pass.ensures.stands h w)))
