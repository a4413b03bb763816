use Rattle.cal_run.proofs.Common.{List, Table, PassEntry, Made, then_turns, journals_of}
use Rattle.cal_run.proofs.WorkersLemmas.Turns.{TurnedUpTo}
use Rattle.cal_run.proofs.workers.turn_each.Given as goal

-- the first threads made the turn, and the collector holds what they did
abbrev pub invariant-loop-k : goal.invariant-loop-k
invariant-loop-k g l = record {
  turned : TurnedUpTo l.arrivals l.j l.k l.initial.workers l.workers;
  suits : (table : Table) → g.C.Collector.suits l.initial.collector table → g.C.Collector.suits l.collector table;
  collected : (history : List PassEntry) → g.C.Collector.holds l.initial.collector history (journals_of l.initial.workers) →
      g.C.Collector.holds l.collector history (journals_of l.workers);
  wrote : (first : _) (history : List PassEntry) → g.C.Collector.wrote first l.initial.collector history → g.C.Collector.wrote first l.collector history;
  same : (first : _) → g.C.Collector.same first l.initial.collector → g.C.Collector.same first l.collector;
  ordered : (made : List Made) → g.C.Collector.met l.initial.collector made → g.C.Collector.met l.collector (then_turns l.k made);
}
