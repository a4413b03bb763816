use Rattle.cal_policy.proofs.Common.{Some, ap, ◌∙◌, CoreClass, may_take, setting_in, so_far}
use Rattle.cal_policy.proofs.PassLemmas.Branches.{when_true, when_false}
use Rattle.cal_policy.proofs.pass.Pass.open_class.Goals as goal

pub returns-then-may_take : goal.returns-then-may_take
returns-then-may_take c = λ h acts st.
    let s = setting_in c.args.self.now h in
    let x = so_far s acts in
    ap (λ (class : CoreClass). Some class) (c.class_if_idle.ensures x st.agrees)
    ∙ when_true (may_take s x c.args.task c.args.core) _ _ (c.if-may_take.ensures h acts st)

pub returns-else-may_take : goal.returns-else-may_take
returns-else-may_take c = λ h acts st.
    let s = setting_in c.args.self.now h in
    when_false (may_take s (so_far s acts) c.args.task c.args.core) _ _ (c.if-may_take.ensures h acts st)
