use Rattle.std.proofs.Common.{◌≡◌, length}
use Rattle.cal_sched.specs.Scheduler.{HaveSeenNothing, HaveSentNothing}
use Rattle.example_pages.proofs.runtime.open_ends.Given as goal

abbrev pub invariant-loop-number : goal.invariant-loop-number
invariant-loop-number l = record {
  pages : length l.observers.items ≡ l.number;
  rings : length l.senders.items ≡ l.number;
  unseen : HaveSeenNothing l.observers.items;
  unsent : HaveSentNothing l.senders.items;
}
