use Rattle.cal_measure.proofs.Common.{[], replicate, AllZip, IsThreadWorkOf}
use Rattle.cal_measure.proofs.thread_work.each.open_works.Given as goal

abbrev pub invariant-loop : goal.invariant-loop
invariant-loop l = AllZip IsThreadWorkOf (replicate l.counter []) l.works.items
