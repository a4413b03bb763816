use Rattle.cal_measure.proofs.Common.{◌++◌, ◌∷◌, [], arith, AreActionsOf}
use Rattle.cal_measure.proofs.EachTaskLemmas.{all_done, none_yet, one_done}
use Rattle.cal_measure.proofs.walk.each_task.count_each.Goals as goal

pub loop-task-init : goal.loop-task-init
loop-task-init c = λ x low agrees each. none_yet _ _ _ each

pub loop-task-preserved : goal.loop-task-preserved
loop-task-preserved c = λ x low agrees each.
    let table = c.args.config.now in
    one_done (λ t of_task. AreActionsOf table t x of_task) (λ t of_task. AreActionsOf table t (x ++ c.args.action ∷ []) of_task)
    c.loop-task.task c.loop-task.numbers _ c.with_one.result
    (let a = c.loop-task-test.true in let b = c.loop-task.auto.numbers in omega (arith, a, b))
    (c.loop-task.invariant x low agrees each) (c.with_one.ensures x low agrees)

pub returns-clause-numbers : goal.returns-clause-numbers
returns-clause-numbers c = λ x low agrees each.
    all_done _ _ c.loop-task.task c.loop-task.numbers (let a = c.loop-task-test.false in let b = c.loop-task.auto.numbers in omega (arith, a, b))
    (c.loop-task.invariant x low agrees each)
