use Rattle.cal_sched.proofs.Common.{◌≡◌, ◌≤◌, length, vec_capacity}
use Rattle.cal_sched.specs.Spares.{AreSpare}
use Rattle.cal_sched.proofs.watch.make_room.Given as goal

abbrev pub invariant-loop : goal.invariant-loop
invariant-loop l = record {
  count : length l.spare.items ≡ l.counter;
  room : l.count ≤ vec_capacity l.spare;
  each : AreSpare l.pages l.spare.items;
}
