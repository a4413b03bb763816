use Rattle.cal_trace.specs.History.Reading.{IsOpen, rows_left}
use Rattle.cal_facts.proofs.Counted.{IsCounting}
use Rattle.cal_facts.proofs.counting.count_passes.Given as goal

abbrev pub invariant-loop-history : goal.invariant-loop-history
invariant-loop-history l = record {
  ready : IsOpen l.history;
  counting : IsCounting l.input l.history l.count;
}

abbrev pub decreases-loop-history : goal.decreases-loop-history
decreases-loop-history l = rows_left l.history
