use Rattle.cal_run.proofs.Common.{◌≡◌, length, into_iter_items, into_iter_len}
use Rattle.cal_run.proofs.ClosingLemmas.Ends.{EndsUpTo}
use Rattle.cal_run.proofs.closing.thread_ends.end_each.Given as goal

abbrev pub invariant-loop-worker : goal.invariant-loop-worker
invariant-loop-worker l = record {
  so_far : EndsUpTo (into_iter_items l.initial.worker-iterator) (into_iter_items l.worker-iterator) l.ends.items;
  count : into_iter_len l.worker-iterator ≡ length (into_iter_items l.worker-iterator);
}
