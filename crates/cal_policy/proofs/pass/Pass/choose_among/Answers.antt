-- The cores between the set's members have no class.
use Rattle.cal_policy.proofs.Common.{◌<◌, None, cond, ap, sym, ◌∙◌, arith, so_far, class_by, class_of, class_among, holder_of, comes_before, setting_in}
use Rattle.cal_policy.proofs.ListLemmas.OneNumberMore.{best_more}
use Rattle.cal_policy.proofs.BoardLemmas.AsKept.{class_as_kept}
use Rattle.cal_policy.proofs.BoardLemmas.TwoSets.{best_skip}
use Rattle.cal_policy.proofs.pass.Pass.choose_among.Goals as goal

pub loop-core-preserved : goal.loop-core-preserved
loop-core-preserved c = record {
  choice = λ h acts s.
      let at = setting_in c.args.self.now h in
      let core = c.in-Some.core in
      let class = class_of at acts c.args.task in
      let low : core < 128 = omega (arith, c.requires.at_hand.accepted.machine.most, c.in-Some.ensures.next.1) in
      c.first_class-best.ensures.better ∙ best_more comes_before (class_among c.args.cores.now at acts c.args.task) core _ _
      (c.loop-core.invariant.choice h acts s
      ∙ best_skip comes_before (class_among c.args.cores.now at acts c.args.task) c.loop-core.first core c.in-Some.ensures.next.0
      (λ k a b. ap (λ w. cond w (class k) None) (c.in-Some.ensures.between k a b)))
      (c.class_by_holder-class.ensures h acts s
      ∙ ap (class_by at acts c.args.task core) (s.agrees.holding.holders core low)
      ∙ class_as_kept at acts c.args.task core (holder_of (so_far at acts) core)
      ∙ sym (ap (λ w. cond w (class core) None) c.in-Some.ensures.member));
  below = c.first_class-best.ensures.below;
  first = omega (arith, c.in-Some.ensures.next.1);
}

pub returns-clause-choice : goal.returns-clause-choice
returns-clause-choice c = λ h acts s.
    let at = setting_in c.args.self.now h in
    c.loop-core.invariant.choice h acts s
    ∙ best_skip comes_before (class_among c.args.cores.now at acts c.args.task) c.loop-core.first c.args.self.now.config.now.cores c.loop-core.invariant.first
    (λ k a b. ap (λ w. cond w (class_of at acts c.args.task k) None) (c.in_default.ensures.none k a b))
