use Rattle.cal_paced.proofs.Common.{◌≡◌, ◌+◌, length, min, watch_seat_of}
use Rattle.cal_paced.proofs.rounds.watch_passes.Given as goal

-- so many rounds were made, where there were as many left
abbrev pub invariant-loop : goal.invariant-loop
invariant-loop l = record {
  rounds : length l.watch.rounds ≡ min (length l.initial.watch.rounds + l.counter) l.initial.watch.most;
  seat : watch_seat_of l.watch ≡ watch_seat_of l.initial.watch;
  most : l.watch.most ≡ l.initial.watch.most;
}
