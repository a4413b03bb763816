use Rattle.std.proofs.Common.{◌≡◌}
use Rattle.cal_run.specs.Parts.{HasPassed, scheduler_seat_of}
use Rattle.cal_threads.specs.Gates.{LetsThrough}
use Rattle.cal_threads.proofs.working.make_passes.Given as goal

abbrev pub invariant-loop-p : goal.invariant-loop-p
invariant-loop-p g l = HasPassed l.arrivals l.p l.scheduler × (scheduler_seat_of l.scheduler ≡ scheduler_seat_of l.fn.scheduler)
    × LetsThrough (g.G.Gate.answers_pass l.gate) l.p
