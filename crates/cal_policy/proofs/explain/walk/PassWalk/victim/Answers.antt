use Rattle.cal_policy.proofs.Common.{◌≡◌, subst, victim_of, Setting, so_far}
use Rattle.cal_policy.proofs.explain.walk.PassWalk.victim.Goals as goal

pub returns-clause-victim : goal.returns-clause-victim
returns-clause-victim c = λ h w.
    let made = c.args.self.now.made.items in
    let P : Setting → Type 0 = λ s. c.victim_choice.result ≡ victim_of s (so_far s made) in
    subst P (c.pass.ensures.setting h) (c.victim_choice.ensures.victim h made (rw c.deref.ensures (c.pass.ensures.stands h w)))
