use Rattle.std.proofs.Common.{◌≡◌}
use Rattle.cal_machine.specs.TableTasks.{threads_of_table}
use Rattle.cal_guard.specs.Guarded.{board_in}
use Rattle.cal_policy.specs.State.{IsReady}
use Rattle.test_policy.proofs.guard.refusals.offers_noted.Given as goal

abbrev pub invariant-loop-group : goal.invariant-loop-group
invariant-loop-group l = record {
  of : IsReady l.config (board_in l.guard);
  all : l.came.count ≡ threads_of_table l.config;
}
