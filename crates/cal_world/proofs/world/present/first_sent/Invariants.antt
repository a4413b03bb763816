use Rattle.cal_world.proofs.Common.{◌≤◌, ◌-◌, [], length, AreSent}
use Rattle.cal_world.proofs.world.present.first_sent.Given as goal

abbrev pub invariant-loop-alloc : goal.invariant-loop-alloc
invariant-loop-alloc l = record {
  few : length l.sent.items ≤ l.threads;
  each : AreSent l.sent.items [];
}

abbrev pub decreases-loop-alloc : goal.decreases-loop-alloc
decreases-loop-alloc l = l.threads - length l.sent.items
