use Rattle.cal_policy.proofs.Common.{subst, IsThreadState, Setting, so_far}
use Rattle.cal_policy.proofs.explain.walk.PassWalk.thread.Goals as goal

pub returns : goal.returns
returns c = λ h w.
    let made = c.args.self.now.made.items in
    let P : Setting → Type 0 = λ s. IsThreadState s (so_far s made) c.args.thread c.thread_state.result in
    subst P (c.pass.ensures.setting h) (c.thread_state.ensures h made (rw c.deref.ensures (c.pass.ensures.stands h w)))
