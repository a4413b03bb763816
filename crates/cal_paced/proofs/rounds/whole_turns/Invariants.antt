use Rattle.cal_paced.proofs.Common.{List, Table, PassEntry, TurnedUpTo, Made, then_turns, journals_of, SlowsNobody, Plan}
use Rattle.cal_paced.proofs.Turning.{StoodUpTo}
use Rattle.cal_paced.proofs.rounds.whole_turns.Given as goal

-- the first threads made the turn, and the collector holds what they did
abbrev pub invariant-loop-k : goal.invariant-loop-k
invariant-loop-k g l = record {
  turned : TurnedUpTo l.given l.r l.k l.initial.workers l.workers;
  stood : (plan : Plan) → SlowsNobody plan → StoodUpTo plan l.given l.r l.k l.initial.workers l.workers l.keeping.saved.items l.keeping.saved.items;
  suits : (table : Table) → g.C.Collector.suits l.initial.collector table → g.C.Collector.suits l.collector table;
  collected : (history : List PassEntry) → g.C.Collector.holds l.initial.collector history (journals_of l.initial.workers) →
      g.C.Collector.holds l.collector history (journals_of l.workers);
  ordered : (made : List Made) → g.C.Collector.met l.initial.collector made → g.C.Collector.met l.collector (then_turns l.k made);
}
