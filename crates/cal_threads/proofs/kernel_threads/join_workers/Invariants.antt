use Rattle.std.specs.Prelude.{◌≡◌, ◌+◌, ◌≤◌, None, Ok, Some, map, vec_len, vec_capacity}
use Rattle.std.specs.List.{AllZip, Contains}
use Rattle.std.specs.Vec.Iter.{into_iter_len}
use Rattle.cal_run.specs.declared.fault.SimFault.TheVariants.{Gate}
use Rattle.cal_threads.specs.Promises.{IsPromiseKept, MayEnd, MayGive}
use Rattle.cal_threads.proofs.Ends.{IsLeastSoFar}
use Rattle.cal_threads.proofs.kernel_threads.join_workers.Given as goal

-- Where no fault has come so far, each thread gave a kernel thread back that keeps its promise; where the least is the
-- gate's, the gate may have ended one of them. There is room for the rest. Each answer is one that its thread may give; the
-- fault is the least of them, and where there is none they are the kernel threads.
abbrev pub invariant-loop-thread : goal.invariant-loop-thread
invariant-loop-thread g l =
    (l.fault ≡ None → AllZip (λ t w. IsPromiseKept g.G.Gate.answers_turn t.promise w) l.yielded l.workers.items)
    × (l.fault ≡ Some Gate → (t : _) × Contains l.yielded t × MayEnd g.G.Gate.answers_turn t.promise)
    × (vec_len l.workers + into_iter_len l.thread-iterator ≤ vec_capacity l.workers)
    × AllZip (λ t r. MayGive g.G.Gate.answers_turn t.promise r) l.yielded l.answers.noted
    × IsLeastSoFar l.answers.noted l.fault
    × (l.fault ≡ None → l.answers.noted ≡ map Ok l.workers.items)
