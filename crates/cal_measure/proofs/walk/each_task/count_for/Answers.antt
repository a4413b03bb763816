use Rattle.cal_measure.proofs.Common.{◌++◌, ◌∷◌, ◌∙◌, [], arith, sym, AreActionsOf}
use Rattle.cal_measure.proofs.EachTaskLemmas.{one_place}
use Rattle.cal_measure.proofs.NothingTo.{stays_right}
use Rattle.cal_measure.proofs.walk.each_task.count_for.Goals as goal

pub returns-clause-numbers : goal.returns-clause-numbers
returns-clause-numbers c = λ x low agrees each.
    let table = c.args.config.now in
    let action = c.args.action in
    let own = c.task_of-task.ensures in
    one_place (λ t of_task. AreActionsOf table t x of_task) (λ t of_task. AreActionsOf table t (x ++ action ∷ []) of_task)
    c.task_of-task.result c.args.numbers.now _ c.with_one.result (omega (arith, own.is_task, c.requires.many)) each (c.with_one.ensures x low agrees)
    (λ t row off was. stays_right table t x action row (c.requires.alone x t (λ same. off (same ∙ sym own.task))) was)
