use Rattle.cal_load.specs.Logs.{AreGiven}
use Rattle.cal_load.proofs.log.logged.all_of_log.Given as goal

abbrev pub invariant-loop-task : goal.invariant-loop-task
invariant-loop-task l = AreGiven l.config l.rows l.turns l.task l.gathered
