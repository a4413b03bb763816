use Rattle.cal_policy.proofs.Common.{◌&&◌, not, ap, ◌∙◌, owner_of, may_take_from, setting_in, preempt_class, is_granted_in, so_far, has_room}
use Rattle.cal_policy.proofs.PassLemmas.Branches.{when_both, when_not_first, when_not_second}
use Rattle.cal_policy.proofs.pass.Pass.class_from.Goals as goal

pub returns-then-not-may_be_taken : goal.returns-then-not-may_be_taken
returns-then-not-may_be_taken c = λ h acts st.
    let s = setting_in c.args.self.now h in
    let k = c.args.thread in
    when_not_first (has_room s k && not (is_granted_in acts c.args.core)) (may_take_from s (so_far s acts) c.args.task (owner_of s.table k)) _ _ (c.if-not-may_be_taken.ensures h acts st)

pub returns-then-may_take_from : goal.returns-then-may_take_from
returns-then-may_take_from c = λ h acts st.
    let s = setting_in c.args.self.now h in
    let x = so_far s acts in
    let k = c.args.thread in
    let t = c.args.task in
    c.preempt_class.ensures x st.agrees
    ∙ ap (preempt_class s.table x t) c.task_of-other.ensures.task
    ∙ when_both (has_room s k && not (is_granted_in acts c.args.core)) (may_take_from s x t (owner_of s.table k)) _ _ (c.if-not-may_be_taken.ensures h acts st)
    (c.if-may_take_from.ensures h acts st ∙ ap (may_take_from s x t) c.task_of-other.ensures.task)

pub returns-else-may_take_from : goal.returns-else-may_take_from
returns-else-may_take_from c = λ h acts st.
    let s = setting_in c.args.self.now h in
    let x = so_far s acts in
    let k = c.args.thread in
    let t = c.args.task in
    when_not_second (has_room s k && not (is_granted_in acts c.args.core)) (may_take_from s x t (owner_of s.table k)) _ _
    (c.if-may_take_from.ensures h acts st ∙ ap (may_take_from s x t) c.task_of-other.ensures.task)
