use Rattle.cal_paced.proofs.Common.{◌≡◌, List, length, Made, journals_of, AreAllCores, DifferFrom, IsMadeUpTo, then_rounds, Given}
use Rattle.cal_paced.proofs.rounds.make_rounds.Given as goal

-- these many rounds were made, and the collector holds what they handed out
abbrev pub invariant-loop-r : goal.invariant-loop-r
invariant-loop-r g l = record {
  made : IsMadeUpTo l.r l.plan l.initial.parts.scheduler.table l.given l.parts l.keeping.saved.items l.keeping.misses;
  given : DifferFrom 0 l.initial.given l.given;
  as_given : l.plan.figure ≡ Given → l.given ≡ l.initial.given;
  few : length l.parts.workers.items ≡ length l.initial.parts.workers.items;
  cores : AreAllCores l.keeping.all;
  most : l.parts.watch.most ≡ l.initial.parts.watch.most;
  policy : l.parts.scheduler.policy ≡ l.initial.parts.scheduler.policy;
  suits : g.C.Collector.suits l.collector l.initial.parts.scheduler.table;
  collected : g.C.Collector.holds l.initial.collector l.initial.parts.scheduler.history (journals_of l.initial.parts.workers.items) →
      g.C.Collector.holds l.collector l.parts.scheduler.history (journals_of l.parts.workers.items);
  ordered : (made : List Made) → g.C.Collector.met l.initial.collector made →
      g.C.Collector.met l.collector (then_rounds l.plan.pace (length l.initial.parts.workers.items) l.r made);
}
