use Rattle.cal_measure.proofs.Common.{◌++◌, ◌∷◌, [], arith, IsTimeOf}
use Rattle.cal_measure.proofs.EachTaskLemmas.{all_done, none_yet, one_done}
use Rattle.cal_measure.proofs.walk.each_task.time_each.Goals as goal

pub loop-task-init : goal.loop-task-init
loop-task-init c = λ h e few state clock lasts each. none_yet _ _ _ each

pub loop-task-preserved : goal.loop-task-preserved
loop-task-preserved c = λ h e few state clock lasts each.
    let table = c.args.config.now in
    one_done (IsTimeOf table h) (IsTimeOf table (h ++ e ∷ [])) c.loop-task.task c.loop-task.times _ c.with_pass.result
    (let a = c.loop-task-test.true in let b = c.loop-task.auto.times in omega (arith, a, b))
    (c.loop-task.invariant h e few state clock lasts each) (c.with_pass.ensures h e few state clock lasts)

pub returns-clause-times : goal.returns-clause-times
returns-clause-times c = λ h e few state clock lasts each.
    all_done _ _ c.loop-task.task c.loop-task.times (let a = c.loop-task-test.false in let b = c.loop-task.auto.times in omega (arith, a, b))
    (c.loop-task.invariant h e few state clock lasts each)
