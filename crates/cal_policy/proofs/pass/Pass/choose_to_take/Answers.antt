-- The cores between the open ones have no class.
use Rattle.cal_policy.proofs.Common.{◌<◌, sym, ◌∙◌, arith, class_to_take, comes_before, setting_in, so_far}
use Rattle.cal_policy.proofs.ListLemmas.OneNumberMore.{best_more}
use Rattle.cal_policy.proofs.BoardLemmas.TwoSets.{best_skip}
use Rattle.cal_policy.proofs.AssuredLemmas.AsKept.{open_as_kept, closed_class}
use Rattle.cal_policy.proofs.pass.Pass.choose_to_take.Goals as goal

pub loop-core-preserved : goal.loop-core-preserved
loop-core-preserved c = record {
  choice = λ h acts st.
      let s = setting_in c.args.self.now h in
      let x = so_far s acts in
      let core = c.in-Some.core in
      let p = c.requires.at_hand in
      let low : core < 128 = omega (arith, p.accepted.machine.most, c.in-Some.ensures.next.1) in
      c.first_class-best.ensures.better ∙ best_more comes_before (class_to_take c.args.owed s x c.args.task) core _ _
      (c.loop-core.invariant.choice h acts st
      ∙ best_skip comes_before (class_to_take c.args.owed s x c.args.task) c.loop-core.first core c.in-Some.ensures.next.0
      (λ k a b. closed_class c.args.owed s x c.args.task k (sym (open_as_kept _ c.args.board.now x p.ready st.agrees k (omega (arith, low, b))) ∙ c.in-Some.ensures.between k a b)))
      (c.class_to_take-class.ensures h acts st);
  below = c.first_class-best.ensures.below;
  first = omega (arith, c.in-Some.ensures.next.1);
}

pub returns-clause-choice : goal.returns-clause-choice
returns-clause-choice c = λ h acts st.
    let s = setting_in c.args.self.now h in
    let x = so_far s acts in
    let p = c.requires.at_hand in
    c.loop-core.invariant.choice h acts st
    ∙ best_skip comes_before (class_to_take c.args.owed s x c.args.task) c.loop-core.first c.args.self.now.config.now.cores c.loop-core.invariant.first
    (λ k a b. closed_class c.args.owed s x c.args.task k (sym (open_as_kept _ c.args.board.now x p.ready st.agrees k (omega (arith, p.accepted.machine.most, b))) ∙ c.in_default.ensures.none k a b))
