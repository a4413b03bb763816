use Rattle.cal_measure.proofs.Common.{◌∙◌, ◌++◌, List, take, take_all, subst, Agrees, Action, AreActionsOf, EachTask}
use Rattle.cal_policy.proofs.ListLemmas.Each.{after_more}
use Rattle.cal_measure.proofs.Counting.{low_so_far}
use Rattle.cal_measure.proofs.walk.each_task.count_actions_of_each.Goals as goal

pub loop-action-preserved : goal.loop-action-preserved
loop-action-preserved c =
    let table = c.args.config.now in
    let xs = c.args.actions.now in
    let n = c.loop-action.action-index in
    let lt = c.loop-action-test.true in
    let inv = c.loop-action.invariant in
    record {
      agrees = λ x a. subst (λ (l : List Action). Agrees c.apply.new.self l) (after_more x xs n _ lt) (c.apply.ensures.agrees (x ++ take n xs) (inv.agrees x a));
      ready = c.apply.ensures.ready;
      keeping = c.apply.ensures.keeping ∙ inv.keeping;
      many = c.count_action.ensures.many ∙ inv.many;
      numbers = λ x low a was. subst (λ (l : List Action). EachTask (λ t of_task. AreActionsOf table t l of_task) c.count_action.new.numbers) (after_more x xs n _ lt)
          (c.count_action.ensures.numbers (x ++ take n xs) (low_so_far x xs n lt low) (inv.agrees x a) (inv.numbers x low a was));
    }

pub returns-clause-numbers : goal.returns-clause-numbers
returns-clause-numbers c = λ x low a was.
    let table = c.args.config.now in
    let xs = c.args.actions.now in
    subst (λ (l : List Action). EachTask (λ t of_task. AreActionsOf table t (x ++ l) of_task) c.loop-action.numbers)
    (take_all c.loop-action.action-index xs c.loop-action-test.false) (c.loop-action.invariant.numbers x low a was)
