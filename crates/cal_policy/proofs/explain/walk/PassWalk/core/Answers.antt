use Rattle.cal_policy.proofs.Common.{subst, IsCoreState, Setting}
use Rattle.cal_policy.proofs.explain.walk.PassWalk.core.Goals as goal

pub returns-clause-state : goal.returns-clause-state
returns-clause-state c = λ h w.
    let made = c.args.self.now.made.items in
    let P : Setting → Type 0 = λ s. IsCoreState s made c.args.core c.core_state.result in
    subst P (c.pass.ensures.setting h) (c.core_state.ensures.state h made (rw c.deref.ensures (c.pass.ensures.stands h w)))
