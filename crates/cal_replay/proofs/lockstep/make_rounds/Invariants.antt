use Rattle.std.specs.Prelude.{[]}
use Rattle.cal_machine.specs.Table.{Table}
use Rattle.cal_run.specs.Workers.{journals_of}
use Rattle.cal_replay.specs.Parts.{AreReplayedUpTo}
use Rattle.cal_replay.proofs.lockstep.make_rounds.Given as goal

-- these many rounds were made, and the collector holds what their turns handed out
abbrev pub invariant-loop-r : goal.invariant-loop-r
invariant-loop-r g l = record {
  made : AreReplayedUpTo l.config l.arrivals l.history l.r l.parts;
  collected : g.C.Collector.holds l.initial.collector [] (journals_of l.initial.parts.workers.items) → g.C.Collector.holds l.collector [] (journals_of l.parts.workers.items);
  suits : (table : Table) → g.C.Collector.suits l.initial.collector table → g.C.Collector.suits l.collector table;
}
