use Rattle.cal_paced.proofs.Common.{◌≡◌, List, length, Table, PassEntry, TurnedUpTo, Made, then_turns, journals_of, AreAllCores, AreBelowWhole}
use Rattle.cal_paced.proofs.Turning.{StoodUpTo}
use Rattle.cal_paced.proofs.rounds.shared_turns.Given as goal

-- the first threads made the turn, and the collector holds what they did
abbrev pub invariant-loop-k : goal.invariant-loop-k
invariant-loop-k g l = record {
  turned : TurnedUpTo l.given l.r l.k l.initial.workers l.workers;
  stood : StoodUpTo l.plan l.given l.r l.k l.initial.workers l.workers l.initial.keeping.saved.items l.keeping.saved.items;
  kept : length l.keeping.saved.items ≡ length l.initial.workers;
  below : AreBelowWhole l.keeping.saved.items;
  cores : AreAllCores l.keeping.all;
  misses : l.keeping.misses ≡ l.initial.keeping.misses;
  suits : (table : Table) → g.C.Collector.suits l.initial.collector table → g.C.Collector.suits l.collector table;
  collected : (history : List PassEntry) → g.C.Collector.holds l.initial.collector history (journals_of l.initial.workers) →
      g.C.Collector.holds l.collector history (journals_of l.workers);
  ordered : (made : List Made) → g.C.Collector.met l.initial.collector made → g.C.Collector.met l.collector (then_turns l.k made);
}
