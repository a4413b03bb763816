use Rattle.std.proofs.Common.{arith, refl}
use Rattle.cal_run.specs.declared.workers.worker.Worker.{Worker}
use Rattle.cal_threads.specs.Gates.{LetsTurns}
use Rattle.cal_threads.proofs.Pairs.{pairs_through, pairs_second}
use Rattle.cal_threads.proofs.Ends.{both_is_gate}
use Rattle.cal_threads.proofs.Workers.{all_made, all_seated, asked_of, kept_of, of_each}
use Rattle.cal_threads.proofs.kernel_threads.run_workers.Goals as goal

-- Each thread is of the kernel thread at its place, and what came back at its place is what it promised.
pub returns-in-Ok-clause-made : goal.returns-in-Ok-clause-made
returns-in-Ok-clause-made g c =
    let both = c.in-Ok.ensures.values in
    let started = rw both.0 at c.start_workers-threads.ensures.started in
    let joined = rw both.1 at c.join_workers-joined.ensures.made in
    all_made c.args.arrivals.now _ _ c.requires.none
    (pairs_through _ _ _ (λ was thread is of kept. kept_of _ _ _ _ was thread.promise is of kept) _ _ _ started joined)

pub returns-in-Ok-clause-seats : goal.returns-in-Ok-clause-seats
returns-in-Ok-clause-seats g c =
    let both = c.in-Ok.ensures.values in
    let started = rw both.0 at c.start_workers-threads.ensures.started in
    let joined = rw both.1 at c.join_workers-joined.ensures.made in
    all_seated c.args.arrivals.now _ _
    (pairs_through _ _ _ (λ was thread is of kept. kept_of _ _ _ _ was thread.promise is of kept) _ _ _ started joined)

-- What came back was let through at each turn, and it is of the kernel thread at its place.
pub returns-in-Ok-clause-asked : goal.returns-in-Ok-clause-asked
returns-in-Ok-clause-asked g c =
    let both = c.in-Ok.ensures.values in
    let started = rw both.0 at c.start_workers-threads.ensures.started in
    let joined = rw both.1 at c.join_workers-joined.ensures.made in
    let arrivals = c.args.arrivals.now in
    let all = pairs_through _ _ (λ (was : Worker) (is : Worker). LetsTurns (g.G.Gate.answers_turn c.args.gate.now was.number) arrivals)
    (λ was thread is of kept. asked_of _ _ _ _ was thread.promise is of kept) _ _ _ started joined in
    λ k low.
    let size = c.args.workers.ok.0 in
    of_each (λ i. LetsTurns (g.G.Gate.answers_turn c.args.gate.now i) arrivals) arrivals _ _ c.requires.none all k (omega (arith, low, size))

-- A thread that the gate may have ended is of one of these kernel threads, with these arrivals and this gate.
pub returns-in-Err-clause-ended : goal.returns-in-Err-clause-ended
returns-in-Err-clause-ended g c = λ gate.
    let both = both_is_gate _ _ _ c.start_workers-threads.ensures.refused c.in-Err.ensures.fault gate in
    let started = rw both.0.1 at c.start_workers-threads.ensures.started in
    let joined = rw both.1 at c.join_workers-joined.ensures.ended in
    let end = joined refl in
    let of = (pairs_second _ _ _ started end.0 end.1).1 in
    (end.0.promise.k, of.place, rw (← of.gate_is, ← of.arrivals_are) end.2)
