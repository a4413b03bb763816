use Rattle.cal_policy.proofs.Common.{subst, IsTaskState, Setting, so_far}
use Rattle.cal_policy.proofs.explain.walk.PassWalk.task.Goals as goal

pub returns : goal.returns
returns c = λ h w.
    let made = c.args.self.now.made.items in
    let P : Setting → Type 0 = λ s. IsTaskState s (so_far s made) c.args.task c.task_state.result in
    subst P (c.pass.ensures.setting h) (c.task_state.ensures h made (rw c.deref.ensures (c.pass.ensures.stands h w)))
