-- The cores between the taken ones have no class.
use Rattle.cal_policy.proofs.Common.{◌<◌, ℕ, Option, ◌∙◌, arith, CoreClass, held_class, holder_of, comes_before, setting_in, so_far}
use Rattle.cal_policy.proofs.ListLemmas.OneNumberMore.{best_more}
use Rattle.cal_policy.proofs.BoardLemmas.TwoSets.{best_skip}
use Rattle.cal_policy.proofs.AssuredLemmas.AsKept.{none_held}
use Rattle.cal_policy.proofs.pass.Pass.choose_held.Goals as goal

pub loop-core-preserved : goal.loop-core-preserved
loop-core-preserved c = record {
  choice = λ h acts st.
      let s = setting_in c.args.self.now h in
      let class : ℕ → Option CoreClass = λ k. held_class s acts c.args.task k (holder_of (so_far s acts) k) in
      let core = c.in-Some.core in
      let p = c.requires.at_hand in
      let low : core < 128 = omega (arith, p.accepted.machine.most, c.in-Some.ensures.next.1) in
      c.first_class-best.ensures.better ∙ best_more comes_before class core _ _
      (c.loop-core.invariant.choice h acts st
      ∙ best_skip comes_before class c.loop-core.first core c.in-Some.ensures.next.0
      (λ k a b. none_held c.args.board.now s acts c.args.task st p.ready.sets k (omega (arith, low, b)) (c.in-Some.ensures.between k a b)))
      (c.held_class-class.ensures h acts st);
  below = c.first_class-best.ensures.below;
  first = omega (arith, c.in-Some.ensures.next.1);
}

pub returns-clause-choice : goal.returns-clause-choice
returns-clause-choice c = λ h acts st.
    let s = setting_in c.args.self.now h in
    let class : ℕ → Option CoreClass = λ k. held_class s acts c.args.task k (holder_of (so_far s acts) k) in
    let p = c.requires.at_hand in
    c.loop-core.invariant.choice h acts st
    ∙ best_skip comes_before class c.loop-core.first c.args.self.now.config.now.cores c.loop-core.invariant.first
    (λ k a b. none_held c.args.board.now s acts c.args.task st p.ready.sets k (omega (arith, p.accepted.machine.most, b)) (c.in_default.ensures.none k a b))
