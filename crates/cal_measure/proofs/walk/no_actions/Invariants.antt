use Rattle.cal_measure.proofs.Common.{◌≡◌, [], length, AreActionsOf, EachTask}
use Rattle.cal_measure.proofs.walk.no_actions.Given as goal

abbrev pub invariant-loop-task : goal.invariant-loop-task
invariant-loop-task l = record {
  many : length l.rows.items ≡ l.task;
  each : EachTask (λ t of_task. AreActionsOf l.config t [] of_task) l.rows.items;
}
