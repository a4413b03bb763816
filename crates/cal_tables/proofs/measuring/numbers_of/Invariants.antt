use Rattle.cal_tables.proofs.Common.{◌≡◌, ℕ, Some, slice_get, length, AreNumbersAtEnd}
use Rattle.cal_measure.specs.Requests.{AreRequestsOf}
use Rattle.cal_measure.specs.declared.requests.TaskRequests.{TaskRequests}
use Rattle.cal_run.specs.declared.outcome.Outcome.{Outcome}
use Rattle.cal_tables.proofs.measuring.numbers_of.Given as goal

abbrev pub invariant-loop-task : goal.invariant-loop-task
invariant-loop-task l = record {
  many : length l.numbers.items ≡ l.task;
  each : (outcome : Outcome) → AreNumbersAtEnd l.arrivals outcome l.ended → (t : ℕ) (of_task : TaskRequests) → slice_get l.numbers.items t ≡ Some of_task →
      AreRequestsOf l.ended.config l.arrivals l.counted outcome.journals outcome.left t of_task;
}
