use Rattle.cal_policy.proofs.Common.{◌≡◌, ◌&&◌, subst, sibling_of, are_lacked, is_free, holder_of, Setting, so_far}
use Rattle.cal_policy.proofs.explain.walk.PassWalk.is_free_and_lacked_beside.Goals as goal

pub returns : goal.returns
returns c = λ h w.
    let made = c.args.self.now.made.items in
    let P : Setting → Type 0 = λ s. c.is_free_and_lacked_beside.result ≡ (is_free (holder_of (so_far s made) (sibling_of c.args.core)) && are_lacked s (so_far s made)) in
    subst P (c.pass.ensures.setting h) (c.is_free_and_lacked_beside.ensures h made (rw c.deref.ensures (c.pass.ensures.stands h w)))
