use Rattle.cal_machine.proofs.ThreadNumbers.{some_thread}
use Rattle.cal_machine.proofs.config.Config.threads.Goals as goal

pub returns-clause-some : goal.returns-clause-some
returns-clause-some c =
    let table = c.self.invariant.0 in
    rw (c.self.invariant.1) (some_thread c.self.inside.tasks.items table.some_task table.each)
