use Rattle.std.specs.Prelude.{◌≡◌, [], length}
use Rattle.cal_machine.specs.Table.{Table}
use Rattle.cal_paced.specs.Making.{DifferFrom}
use Rattle.cal_run.specs.Workers.{journals_of}
use Rattle.cal_replay.specs.Paced.{ArePacedUpTo}
use Rattle.cal_replay.proofs.paced.make_rounds.Given as goal

-- these many rounds were made, and the collector holds what their turns handed out
abbrev pub invariant-loop-r : goal.invariant-loop-r
invariant-loop-r g l = record {
  made : ArePacedUpTo l.r l.plan l.config l.given l.history l.parts l.keeping;
  given : DifferFrom 0 l.initial.given l.given;
  few : length l.parts.workers.items ≡ length l.initial.parts.workers.items;
  collected : g.C.Collector.holds l.initial.collector [] (journals_of l.initial.parts.workers.items) → g.C.Collector.holds l.collector [] (journals_of l.parts.workers.items);
  suits : (table : Table) → g.C.Collector.suits l.initial.collector table → g.C.Collector.suits l.collector table;
}
