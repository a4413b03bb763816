use Rattle.cal_measure.proofs.Common.{◌≡◌, [], length, EachTask, IsTimeOf}
use Rattle.cal_measure.proofs.walk.no_times.Given as goal

abbrev pub invariant-loop-task : goal.invariant-loop-task
invariant-loop-task l = record {
  many : length l.rows.items ≡ l.task;
  each : EachTask (IsTimeOf l.config []) l.rows.items;
}
