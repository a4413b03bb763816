use Rattle.std.specs.Prelude.{◌+◌, ◌≤◌, vec_len, vec_capacity}
use Rattle.std.specs.List.{AllZip}
use Rattle.std.specs.Vec.Iter.{into_iter_items, into_iter_len}
use Rattle.cal_threads.specs.Promises.{IsOf}
use Rattle.cal_threads.proofs.Workers.{HaveMadeFrom}
use Rattle.cal_threads.proofs.kernel_threads.start_workers.Given as goal

-- Each kernel thread so far has a thread of its own; each of the rest made no turn yet, and there is room for its thread.
abbrev pub invariant-loop-worker : goal.invariant-loop-worker
invariant-loop-worker g l =
    AllZip (λ w t. IsOf (vec_len l.fn.workers) l.arrivals l.gate w t.promise) l.yielded l.threads.items
    × HaveMadeFrom l.arrivals (vec_len l.threads) 0 (into_iter_items l.worker-iterator)
    × (vec_len l.threads + into_iter_len l.worker-iterator ≤ vec_len l.fn.workers)
    × (vec_len l.fn.workers ≤ vec_capacity l.threads)
