use Rattle.cal_measure.proofs.Common.{◌≡◌, ◌∷◌, List, length, ap, subst, sym, ◌∙◌, rules, arith, AllZip, IsThreadWorkOf}
use Rattle.std.specs.Vec.Iter.{into_iter_items}
use Rattle.cal_measure.specs.declared.thread_work.ThreadWork.{ThreadWork}
use Rattle.cal_measure.proofs.WorksOfEach.{AreEndedUpTo, all_ended, none_ended, one_ended}
use Rattle.cal_measure.proofs.thread_work.each.end_works.Goals as goal

pub loop-work-init : goal.loop-work-init
loop-work-init c = record {
  ended = λ journals each. rw c.new-totals.ensures.items (none_ended c.args.last journals _ each);
  count = search rules;
}

pub loop-work-preserved : goal.loop-work-preserved
loop-work-preserved c =
    let at = c.loop-work in
    let work = c.in-Some.work in
    let rest = into_iter_items c.next.new.self in
    let last = c.args.last in
    let steps : into_iter_items at.work-iterator ≡ work ∷ rest = c.in-Some.ensures.steps.0 in
    record {
      ended = λ journals each. rw c.in_ok-push.ensures.items
          (one_ended last journals at.totals.items work rest c.in_ok-ended.ended
          (subst (λ (l : List ThreadWork). AreEndedUpTo last journals at.totals.items l) steps (at.invariant.ended journals each))
          c.in_ok-ended.ensures);
      count = (let was = at.invariant.count in let gone = c.in-Some.ensures.steps.1 in let short = ap length steps in omega arith);
    }

pub returns : goal.returns
returns c = λ journals each.
    let at = c.loop-work in
    let none : length (into_iter_items at.work-iterator) ≡ 0 = sym at.invariant.count ∙ c.in-None.ensures.steps.0 in
    let given = c.into_iter-work-iterator.ensures.into_iter_gives.0 in
    all_ended c.args.last journals at.totals.items _
    (at.invariant.ended journals (subst (λ (l : List ThreadWork). AllZip IsThreadWorkOf journals l) (sym given) each)) none
