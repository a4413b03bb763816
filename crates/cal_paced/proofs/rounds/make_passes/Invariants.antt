use Rattle.cal_paced.proofs.Common.{◌≡◌, ◌+◌, ◌*◌, ℕ, List, Made, then_passes, Entry, HasPassed, scheduler_seat_of}
use Rattle.cal_paced.proofs.rounds.make_passes.Given as goal

-- the first passes were made, and the collector took them
abbrev pub invariant-loop-p : goal.invariant-loop-p
invariant-loop-p g l = record {
  suits : g.C.Collector.suits l.collector l.initial.scheduler.table;
  passed : HasPassed l.given l.p l.scheduler;
  seat : scheduler_seat_of l.scheduler ≡ scheduler_seat_of l.initial.scheduler;
  collected : (journals : List (List Entry)) → g.C.Collector.holds l.initial.collector l.initial.scheduler.history journals →
      g.C.Collector.holds l.collector l.scheduler.history journals;
  ordered : (n : ℕ) × (l.r * l.pace + n ≡ l.p) × ((made : List Made) → g.C.Collector.met l.initial.collector made → g.C.Collector.met l.collector (then_passes n made));
}
