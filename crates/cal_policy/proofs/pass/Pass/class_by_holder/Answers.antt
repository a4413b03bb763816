-- The class of a held core, by whether it may be revoked.
use Rattle.cal_policy.proofs.Common.{ap, ◌∙◌, so_far, preempt_class, setting_in}
use Rattle.cal_policy.proofs.PassLemmas.Branches.{when_true, when_false}
use Rattle.cal_policy.proofs.pass.Pass.class_by_holder.Goals as goal

pub returns-then-may_preempt : goal.returns-then-may_preempt
returns-then-may_preempt c = λ h acts s.
    let at = setting_in c.args.self.now h in
    rw c.in-Held.is (c.preempt_class.ensures (so_far at acts) s.agrees
    ∙ ap (preempt_class c.args.self.now.config.now (so_far at acts) c.args.task) c.task_of.ensures.task
    ∙ when_true _ _ _ (c.if-may_preempt.ensures h acts s))

pub returns-else-may_preempt : goal.returns-else-may_preempt
returns-else-may_preempt c = λ h acts s. rw c.in-Held.is (when_false _ _ _ (c.if-may_preempt.ensures h acts s))
