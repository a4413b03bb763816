use Rattle.cal_linear.proofs.Common.{◌≡◌, ◌++◌, take, drop, up_to, events_of}
use Rattle.cal_linear.proofs.steps.append_upto.Given as goal

abbrev pub invariant-loop-i : goal.invariant-loop-i
invariant-loop-i l = record {
  appended : l.events.items ≡ l.fn.events.items ++ events_of l.thread (take l.i l.entries);
  cut : take l.i l.entries ++ up_to l.left (drop l.i l.entries) ≡ up_to l.publications l.entries;
}
