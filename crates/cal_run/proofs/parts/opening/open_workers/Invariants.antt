use Rattle.std.specs.Vec.Iter.{into_iter_items}
use Rattle.cal_run.proofs.PartsLemmas.Opened.{HaveWorkers}
use Rattle.cal_run.proofs.parts.opening.open_workers.Given as goal

abbrev pub invariant-loop-thread : goal.invariant-loop-thread
invariant-loop-thread l = HaveWorkers l.arrivals l.fn.threads.items (into_iter_items l.thread-iterator) l.workers.items
