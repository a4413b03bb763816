use Rattle.cal_machine.proofs.ThreadNumbers.{task_in}
use Rattle.cal_machine.proofs.config.Config.task_of.Goals as goal

pub returns-clause-is_task : goal.returns-clause-is_task
returns-clause-is_task c =
    let asked = rw (← c.self.view_is) at c.requires in
    rw (← c.self.view_is, c.self.invariant.3 c.args.k asked) (task_in c.self.inside.tasks.items c.args.k asked).0

pub returns-clause-from_first : goal.returns-clause-from_first
returns-clause-from_first c =
    let asked = rw (← c.self.view_is) at c.requires in
    rw (← c.self.view_is, c.self.invariant.3 c.args.k asked) (task_in c.self.inside.tasks.items c.args.k asked).1

pub returns-clause-within : goal.returns-clause-within
returns-clause-within c =
    let asked = rw (← c.self.view_is) at c.requires in
    rw (← c.self.view_is, c.self.invariant.3 c.args.k asked) (task_in c.self.inside.tasks.items c.args.k asked).2
