use Rattle.cal_policy.proofs.Common.{◌≡◌, subst, thread_choice, Setting, so_far}
use Rattle.cal_policy.proofs.explain.walk.PassWalk.thread_choice.Goals as goal

pub returns-clause-choice : goal.returns-clause-choice
returns-clause-choice c = λ h w.
    let made = c.args.self.now.made.items in
    let P : Setting → Type 0 = λ s. c.choose_thread.result ≡ thread_choice s (so_far s made) c.args.task in
    subst P (c.pass.ensures.setting h) (c.choose_thread.ensures.choice h made (rw c.deref.ensures (c.pass.ensures.stands h w)))
