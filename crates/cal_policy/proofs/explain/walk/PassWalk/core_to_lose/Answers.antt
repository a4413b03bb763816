use Rattle.cal_policy.proofs.Common.{◌≡◌, subst, core_to_lose, Setting, so_far}
use Rattle.cal_policy.proofs.explain.walk.PassWalk.core_to_lose.Goals as goal

pub returns : goal.returns
returns c = λ h w.
    let made = c.args.self.now.made.items in
    let P : Setting → Type 0 = λ s. c.core_to_lose.result ≡ core_to_lose s (so_far s made) c.args.task in
    subst P (c.pass.ensures.setting h) (c.core_to_lose.ensures h made (rw c.deref.ensures (c.pass.ensures.stands h w)))
