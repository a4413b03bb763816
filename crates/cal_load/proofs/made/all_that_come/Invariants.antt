use Rattle.cal_load.proofs.Common.{◌≡◌, came_in, AreGathered}
use Rattle.cal_load.proofs.made.all_that_come.Given as goal

abbrev pub invariant-loop-task : goal.invariant-loop-task
invariant-loop-task l = record {
  gathered : AreGathered l.config l.plan.loads.now l.turns l.task l.gathered;
  came : l.came ≡ came_in l.gathered.counts.items;
}
