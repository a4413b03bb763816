use Rattle.cal_measure.proofs.Common.{◌≡◌, List, length, AllZip, Entry, IsThreadWorkOf}
use Rattle.std.specs.Vec.Iter.{into_iter_items, into_iter_len}
use Rattle.cal_measure.proofs.WorksOfEach.{AreEndedUpTo}
use Rattle.cal_measure.proofs.thread_work.each.end_works.Given as goal

abbrev pub invariant-loop-work : goal.invariant-loop-work
invariant-loop-work l = record {
  ended : (journals : List (List Entry)) → AllZip IsThreadWorkOf journals (into_iter_items l.initial.work-iterator) →
      AreEndedUpTo l.last journals l.totals.items (into_iter_items l.work-iterator);
  count : into_iter_len l.work-iterator ≡ length (into_iter_items l.work-iterator);
}
