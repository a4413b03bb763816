use Rattle.std.proofs.lemmas.Result.{err_from_is_err_and}
use Rattle.cal_machine.proofs.TaskLists.{ends, goes_on, is_done}
use Rattle.cal_machine.proofs.table.tasks_from.Goals as goal

pub returns-in_err-task : goal.returns-in_err-task
returns-in_err-task c =
    let p = err_from_is_err_and c.from_residual.result c.from_residual.ensures.1 in
    rw (p.1, p.2) (ends c.args.items.now c.loop-item.item-index c.item-item.result c.loop-item.tasks.items c.in_err-task.field-0.0 _ c.loop-item-test.true c.item-item.is c.in_err-task.ensures c.loop-item.invariant)

pub loop-item-preserved : goal.loop-item-preserved
loop-item-preserved c = rw c.in_ok-push.ensures.items (goes_on c.args.items.now c.loop-item.item-index c.item-item.result c.loop-item.tasks.items c.in_ok-task.task _ c.loop-item-test.true c.item-item.is c.in_ok-task.ensures c.loop-item.invariant)

pub returns : goal.returns
returns c = is_done c.args.items.now c.loop-item.item-index c.loop-item.tasks.items _ c.loop-item-test.false c.loop-item.invariant
