use Rattle.cal_measure.proofs.Common.{List, Action, Agrees, AreAtMost, AreStateCounts}
use Rattle.cal_measure.proofs.states.count_states.Given as goal

abbrev pub invariant-loop-core : goal.invariant-loop-core
invariant-loop-core l = record {
  many : (x : List Action) → Agrees l.board x → AreStateCounts x l.core l.counts;
  few : AreAtMost l.core l.counts;
}
