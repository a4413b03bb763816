use Rattle.cal_load.proofs.Common.{◌<◌, All, List, length, take, take_all, refl, ap, sym, subst, arith, take_more, All-push, TaskLoad}
use Rattle.cal_load.specs.declared.fault.Why.TheVariants.{NotATask}
use Rattle.cal_load.proofs.asked.are_known.Goals as goal

pub returns-then-load-tasks-clause-fault : goal.returns-then-load-tasks-clause-fault
returns-then-load-tasks-clause-fault c =
    (c.word_at.result.now, rw c.refused.ensures (refl, refl, ap NotATask c.tasks-tasks.ensures.count))

pub loop-load-preserved : goal.loop-load-preserved
loop-load-preserved c =
    let P : TaskLoad → Type 0 = λ load. load.task < length c.args.config.now.tasks in
    let known : c.load-item.result.task < length c.args.config.now.tasks = omega arith in
    subst (λ (ls : List TaskLoad). All P ls)
    (sym (take_more c.args.loads.now c.loop-load.load-index c.load-item.result (omega arith)))
    (All-push P (take c.loop-load.load-index c.args.loads.now) _ c.loop-load.invariant (subst P c.load-item.is known))

pub returns-clause-known : goal.returns-clause-known
returns-clause-known c =
    let P : TaskLoad → Type 0 = λ load. load.task < length c.args.config.now.tasks in
    subst (λ (ls : List TaskLoad). All P ls) (take_all c.loop-load.load-index c.args.loads.now (omega arith)) c.loop-load.invariant
