use Rattle.std.proofs.Common.{◌≡◌, length, min}
use Rattle.cal_run.specs.Parts.{watch_seat_of}
use Rattle.cal_threads.proofs.working.make_rounds.Given as goal

abbrev pub invariant-loop : goal.invariant-loop
invariant-loop l = (length l.watch.rounds ≡ min l.counter l.fn.watch.most) × (watch_seat_of l.watch ≡ watch_seat_of l.fn.watch)
