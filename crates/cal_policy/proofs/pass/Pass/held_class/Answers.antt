use Rattle.cal_policy.proofs.Common.{◌<◌, ap, ◌∙◌, arith, held_class, holder_of, setting_in, so_far}
use Rattle.cal_policy.proofs.AssuredLemmas.AsKept.{held_class_as_kept}
use Rattle.cal_policy.proofs.pass.Pass.held_class.Goals as goal

pub returns : goal.returns
returns c = λ h acts st.
    let at = setting_in c.args.self.now h in
    let low : c.args.core < 128 = omega arith in
    c.class_if_held.ensures h acts st
    ∙ ap (held_class at acts c.args.task c.args.core) (st.agrees.holding.holders c.args.core low)
    ∙ held_class_as_kept at acts c.args.task c.args.core (holder_of (so_far at acts) c.args.core)
