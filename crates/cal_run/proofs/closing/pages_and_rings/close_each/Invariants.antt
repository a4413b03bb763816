use Rattle.cal_run.proofs.Common.{◌≡◌, length, map, into_iter_items, into_iter_len, run_of}
use Rattle.cal_run.proofs.ClosingLemmas.Ends.{ClosesOn}
use Rattle.cal_run.proofs.closing.pages_and_rings.close_each.Given as goal

abbrev pub invariant-loop-end : goal.invariant-loop-end
invariant-loop-end l = record {
  so_far : ClosesOn (map run_of (into_iter_items l.initial.end-iterator)) (into_iter_items l.initial.observers) (into_iter_items l.initial.watchers) (into_iter_items l.initial.senders)
      (map run_of (into_iter_items l.end-iterator)) (into_iter_items l.observers) (into_iter_items l.watchers) (into_iter_items l.senders);
  ends : into_iter_len l.end-iterator ≡ length (into_iter_items l.end-iterator);
  observers : into_iter_len l.observers ≡ length (into_iter_items l.observers);
  watchers : into_iter_len l.watchers ≡ length (into_iter_items l.watchers);
  senders : into_iter_len l.senders ≡ length (into_iter_items l.senders);
}
