use Rattle.cal_run.proofs.Common.{◌≡◌, List, length, IsLegalBy, Made, then_rounds, journals_of}
use Rattle.cal_run.specs.Rounds.{AreAfterRounds}
use Rattle.cal_run.proofs.rounds.make_rounds.Given as goal

-- these many rounds were made, and the collector holds what they handed out
abbrev pub invariant-loop-r : goal.invariant-loop-r
invariant-loop-r g l = record {
  made : AreAfterRounds l.initial.parts.scheduler.table l.arrivals l.r l.parts;
  most : l.parts.watch.most ≡ l.initial.parts.watch.most;
  policy : l.parts.scheduler.policy ≡ l.initial.parts.scheduler.policy;
  suits : g.C.Collector.suits l.collector l.initial.parts.scheduler.table;
  collected : g.C.Collector.holds l.initial.collector l.initial.parts.scheduler.history (journals_of l.initial.parts.workers.items) →
      g.C.Collector.holds l.collector l.parts.scheduler.history (journals_of l.parts.workers.items);
  legal : IsLegalBy l.parts.scheduler.policy l.parts.scheduler.table l.parts.scheduler.history;
  wrote : (first : _) → g.C.Collector.wrote first l.initial.collector l.initial.parts.scheduler.history → g.C.Collector.wrote first l.collector l.parts.scheduler.history;
  same : (first : _) → g.C.Collector.same first l.initial.collector → g.C.Collector.same first l.collector;
  many : length l.parts.workers.items ≡ length l.initial.parts.workers.items;
  ordered : (made : List Made) → g.C.Collector.met l.initial.collector made →
      g.C.Collector.met l.collector (then_rounds (length l.arrivals.passes) (length l.arrivals.turns) (length l.initial.parts.workers.items) l.r made);
}
