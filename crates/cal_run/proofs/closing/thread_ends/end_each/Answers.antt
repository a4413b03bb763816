use Rattle.cal_run.proofs.Common.{◌≡◌, ◌∷◌, length, ap, subst, sym, ◌∙◌, rules, arith, into_iter_items, AreEndsOf}
use Rattle.cal_run.proofs.ClosingLemmas.Ends.{all_ended, none_ended, one_ended}
use Rattle.cal_run.proofs.closing.thread_ends.end_each.Goals as goal

pub loop-worker-init : goal.loop-worker-init
loop-worker-init c = record {
  so_far = rw c.new-ends.ensures.items (none_ended _);
  count = search rules;
}

pub loop-worker-preserved : goal.loop-worker-preserved
loop-worker-preserved c =
    let at = c.loop-worker in
    let steps : into_iter_items at.worker-iterator ≡ c.in-Some.worker ∷ into_iter_items c.next.new.self = c.in-Some.ensures.steps.0 in
    record {
      so_far = rw c.in_ok-push.ensures.items (one_ended _ _ _ at.ends.items c.in-Some.worker _ at.invariant.so_far steps c.end_one-end.ensures);
      count = (let was = at.invariant.count in let gone = c.in-Some.ensures.steps.1 in let short = ap length steps in omega arith);
    }

pub returns : goal.returns
returns c =
    let at = c.loop-worker in
    let none : length (into_iter_items at.worker-iterator) ≡ 0 = sym at.invariant.count ∙ c.in-None.ensures.steps.0 in
    subst (λ l. AreEndsOf l at.ends.items) c.into_iter-worker-iterator.ensures.into_iter_gives.0 (all_ended _ _ at.ends.items at.invariant.so_far none)
