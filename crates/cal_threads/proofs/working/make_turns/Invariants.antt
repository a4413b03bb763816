use Rattle.std.proofs.Common.{◌≡◌}
use Rattle.cal_run.specs.Workers.{HasMade, seat_of}
use Rattle.cal_threads.specs.Gates.{LetsThrough}
use Rattle.cal_threads.proofs.working.make_turns.Given as goal

abbrev pub invariant-loop-j : goal.invariant-loop-j
invariant-loop-j g l = HasMade l.arrivals l.k l.j l.worker × (seat_of l.worker.thread ≡ seat_of l.fn.worker.thread)
    × LetsThrough (g.G.Gate.answers_turn l.gate l.k) l.j
