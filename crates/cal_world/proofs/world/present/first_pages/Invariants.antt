use Rattle.cal_world.proofs.Common.{◌≤◌, ◌-◌, [], length, PagesAreOf}
use Rattle.cal_world.proofs.world.present.first_pages.Given as goal

abbrev pub invariant-loop-alloc : goal.invariant-loop-alloc
invariant-loop-alloc l = record {
  few : length l.pages.items ≤ l.threads;
  each : PagesAreOf l.pages.items [];
}

abbrev pub decreases-loop-alloc : goal.decreases-loop-alloc
decreases-loop-alloc l = l.threads - length l.pages.items
