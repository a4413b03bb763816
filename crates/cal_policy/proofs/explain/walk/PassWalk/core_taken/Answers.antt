use Rattle.cal_policy.proofs.Common.{◌≡◌, subst, choice_for, Setting}
use Rattle.cal_policy.proofs.explain.walk.PassWalk.core_taken.Goals as goal

pub returns-clause-choice : goal.returns-clause-choice
returns-clause-choice c = λ h w.
    let made = c.args.self.now.made.items in
    let P : Setting → Type 0 = λ s. c.core_taken.result ≡ choice_for s made c.args.task in
    subst P (c.pass.ensures.setting h) (c.core_taken.ensures.choice h made (rw c.deref.ensures (c.pass.ensures.stands h w)) c.made.ensures.made)
