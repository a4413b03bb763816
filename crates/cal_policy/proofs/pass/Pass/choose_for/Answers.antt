use Rattle.cal_policy.proofs.Common.{refl, sym, ◌∙◌, None, may_preempt, held_choice, setting_in, so_far}
use Rattle.cal_policy.proofs.AssuredLemmas.Keeping.{chosen_here, chosen_beyond}
use Rattle.cal_policy.proofs.AssuredLemmas.NoneToTake.{no_held_choice}
use Rattle.cal_policy.proofs.PassLemmas.Branches.{when_true, when_false}
use Rattle.cal_policy.proofs.pass.Pass.choose_for.Goals as goal

pub returns-in-Some-clause-choice : goal.returns-in-Some-clause-choice
returns-in-Some-clause-choice c = λ h acts st is acted. chosen_here _ _ _ (c.in-Some.ensures.choice h acts st)

pub returns-then-not-may_revoke_for-clause-choice : goal.returns-then-not-may_revoke_for-clause-choice
returns-then-not-may_revoke_for-clause-choice c = λ h acts st is acted.
    let s = setting_in c.args.self.now h in
    when_false (may_preempt s acts c.args.task) (held_choice s acts c.args.task) None (c.if-not-may_revoke_for.ensures h acts st is acted)
    ∙ chosen_beyond _ _ (c.in_default.ensures.choice h acts st)

pub returns-then-some_may_be_preempted-clause-choice : goal.returns-then-some_may_be_preempted-clause-choice
returns-then-some_may_be_preempted-clause-choice c = λ h acts st is acted.
    let s = setting_in c.args.self.now h in
    c.choose_held.ensures.choice h acts st
    ∙ when_true (may_preempt s acts c.args.task) _ _ (c.if-not-may_revoke_for.ensures h acts st is acted)
    ∙ chosen_beyond _ _ (c.in_default.ensures.choice h acts st)

-- where no task may be preempted no core is taken
pub returns-else-some_may_be_preempted-clause-choice : goal.returns-else-some_may_be_preempted-clause-choice
returns-else-some_may_be_preempted-clause-choice c = λ h acts st is acted.
    let s = setting_in c.args.self.now h in
    let p = c.requires.at_hand in
    sym (no_held_choice c.args.board.now s acts c.args.task p.accepted.machine.most st p.ready (c.if-some_may_be_preempted.ensures.none refl (so_far s acts) st.agrees))
    ∙ when_true (may_preempt s acts c.args.task) _ _ (c.if-not-may_revoke_for.ensures h acts st is acted)
    ∙ chosen_beyond _ _ (c.in_default.ensures.choice h acts st)
