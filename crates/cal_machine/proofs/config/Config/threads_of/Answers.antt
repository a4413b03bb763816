use Rattle.cal_machine.proofs.ThreadNumbers.{task_there}
use Rattle.cal_machine.proofs.config.Config.threads_of.Goals as goal

pub returns-clause-each : goal.returns-clause-each
returns-clause-each c =
    let asked = rw (← c.self.view_is) at c.requires in
    rw (c.task.ensures.task, ← c.self.view_is, c.self.invariant.2 c.args.t asked) (λ k. task_there c.self.inside.tasks.items c.args.t k asked)
