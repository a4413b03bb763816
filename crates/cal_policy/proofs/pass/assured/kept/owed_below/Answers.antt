use Rattle.cal_policy.proofs.Common.{◌≡◌, ap, ◌∙◌, arith, is_task, owed_to, count_below}
use Rattle.cal_policy.proofs.AssuredLemmas.Counting.{counted_more}
use Rattle.cal_policy.proofs.pass.assured.kept.owed_below.Goals as goal

pub loop-lower-preserved : goal.loop-lower-preserved
loop-lower-preserved c = record {
  count = λ x a. c.count_if-count.ensures.count ∙ counted_more (λ k. is_task c.args.task (owed_to x k)) c.loop-lower.lower _ _ (c.loop-lower.invariant.count x a) (c.is_owed_to.ensures x a);
  few = omega (arith, c.loop-lower.invariant.few, c.count_if-count.ensures.few);
}

pub returns : goal.returns
returns c = λ x a.
    let all : c.loop-lower.lower ≡ c.args.core = omega arith in
    c.loop-lower.invariant.count x a ∙ ap (count_below (λ k. is_task c.args.task (owed_to x k))) all
