use Rattle.cal_policy.proofs.Common.{◌≡◌, subst, task_misses, Setting}
use Rattle.cal_policy.proofs.explain.walk.PassWalk.misses.Goals as goal

pub returns : goal.returns
returns c = λ h w.
    let made = c.args.self.now.made.items in
    let P : Setting → Type 0 = λ s. c.task_misses.result ≡ task_misses s c.args.task in
    subst P (c.pass.ensures.setting h) (c.task_misses.ensures h made (rw c.deref.ensures (c.pass.ensures.stands h w)))
