use Rattle.cal_facts.proofs.Common.{◌++◌, ◌∷◌, [], ap, actions_of, looks_of}
use Rattle.cal_machine.specs.declared.task.Task.{Task}
use Rattle.cal_facts.proofs.PointLemmas.{delay_found, point_found}
use Rattle.cal_facts.proofs.series.point.point_of.Goals as goal

pub returns : goal.returns
returns c = λ before entry at.
    let table = c.args.config.now in
    let t = c.args.task in
    let x = actions_of (before ++ entry ∷ []) in
    let delay = delay_found table before entry _ t _ at.now (c.task_delay-delay.ensures (looks_of (before ++ entry ∷ [])) at.state.looks) in
    point_found table before entry t _ _ _ _ _ _ _ _ _ at.number at.now at.bandwidth delay (ap (λ (task : Task). task.delay) c.task.ensures.task)
    (c.held_by.ensures.held x at.state.actions) (c.booked_by.ensures x at.state.actions) (c.cap_if_any.ensures x at.state.actions) (ap (λ (task : Task). task.limit) c.task-2.ensures.task)
