-- How the number of a command is kept makes no difference to a class.
use Rattle.cal_policy.proofs.Common.{◌<◌, ap, ◌∙◌, arith, so_far, holder_of, class_by, setting_in}
use Rattle.cal_policy.proofs.BoardLemmas.AsKept.{class_as_kept}
use Rattle.cal_policy.proofs.pass.Pass.class_of.Goals as goal

pub returns : goal.returns
returns c = λ h acts st.
    let at = setting_in c.args.self.now h in
    let low : c.args.core < 128 = omega (arith, c.requires.at_hand.accepted.machine.most, c.requires.core) in
    c.class_by_holder.ensures h acts st
    ∙ ap (class_by at acts c.args.task c.args.core) (st.agrees.holding.holders c.args.core low)
    ∙ class_as_kept at acts c.args.task c.args.core (holder_of (so_far at acts) c.args.core)
