use Rattle.cal_policy.proofs.Common.{◌≡◌, subst, held_class, holder_of, Setting, so_far}
use Rattle.cal_policy.proofs.explain.walk.PassWalk.held_class.Goals as goal

pub returns : goal.returns
returns c = λ h w.
    let made = c.args.self.now.made.items in
    let P : Setting → Type 0 = λ s. c.held_class.result ≡ held_class s made c.args.task c.args.core (holder_of (so_far s made) c.args.core) in
    subst P (c.pass.ensures.setting h) (c.held_class.ensures h made (rw c.deref.ensures (c.pass.ensures.stands h w)))
