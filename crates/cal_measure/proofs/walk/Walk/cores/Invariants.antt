use Rattle.cal_measure.proofs.Common.{◌≡◌, List, length, Table, PassEntry, AreCoresOf, EachTask, IsWalkOf}
use Rattle.cal_measure.proofs.walk.Walk.cores.Given as goal

abbrev pub invariant-loop-task : goal.invariant-loop-task
invariant-loop-task l = record {
  many : length l.cores.items ≡ l.task;
  each : (table : Table) (h : List PassEntry) → IsWalkOf table h l.self → EachTask (AreCoresOf table h) l.cores.items;
}
