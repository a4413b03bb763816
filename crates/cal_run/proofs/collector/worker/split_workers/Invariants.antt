use Rattle.cal_run.proofs.Common.{◌≡◌, ◌++◌, into_iter_items, journals_of}
use Rattle.cal_run.proofs.collector.worker.split_workers.Given as goal

abbrev pub invariant-loop-worker : goal.invariant-loop-worker
invariant-loop-worker l = record {
  workers : l.bare.items ++ into_iter_items l.worker-iterator ≡ l.fn.workers.items;
  journals : l.journals.items ++ journals_of (into_iter_items l.worker-iterator) ≡ journals_of l.fn.workers.items;
}
