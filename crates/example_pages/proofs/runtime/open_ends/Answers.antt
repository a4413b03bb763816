use Rattle.std.proofs.Common.{rules}
use Rattle.example_pages.proofs.Fresh.{one_more_unseen, one_more_unsent}
use Rattle.example_pages.proofs.runtime.open_ends.Goals as goal

pub loop-number-preserved : goal.loop-number-preserved
loop-number-preserved c =
    let before = c.loop-number.invariant in
    record {
      pages = search rules;
      rings = search rules;
      unseen = rw c.in_ok-push.ensures.items
          (one_more_unseen c.loop-number.observers.items c.in_ok-publisher.observer before.unseen c.in_ok-publisher.ensures.fresh.2);
      unsent = rw c.in_ok-push-2.ensures.items
          (one_more_unsent c.loop-number.senders.items c.in_ok-sender.sender before.unsent c.in_ok-sender.ensures.empty.0);
    }
