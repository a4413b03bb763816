use Rattle.cal_policy.proofs.Common.{◌≡◌, subst, choice_of, Setting}
use Rattle.cal_policy.proofs.explain.walk.PassWalk.core_choice.Goals as goal

pub returns-clause-choice : goal.returns-clause-choice
returns-clause-choice c = λ h w.
    let made = c.args.self.now.made.items in
    let P : Setting → Type 0 = λ s. c.choose_core.result ≡ choice_of s made c.args.task in
    subst P (c.pass.ensures.setting h) (c.choose_core.ensures.choice h made (rw c.deref.ensures (c.pass.ensures.stands h w)))
