use Rattle.cal_policy.proofs.Common.{◌≡◌, subst, open_class, Setting, so_far}
use Rattle.cal_policy.proofs.explain.walk.PassWalk.open_class.Goals as goal

pub returns : goal.returns
returns c = λ h w.
    let made = c.args.self.now.made.items in
    let P : Setting → Type 0 = λ s. c.class_if_open.result ≡ open_class s (so_far s made) c.args.task c.args.core in
    subst P (c.pass.ensures.setting h) (c.class_if_open.ensures h made (rw c.deref.ensures (c.pass.ensures.stands h w)))
