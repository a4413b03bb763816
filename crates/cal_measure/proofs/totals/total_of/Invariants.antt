use Rattle.cal_measure.proofs.Common.{◌≡◌, ◌≤◌, ◌*◌, ◌^◌, take, sum}
use Rattle.cal_measure.proofs.totals.total_of.Given as goal

abbrev pub invariant-loop-time : goal.invariant-loop-time
invariant-loop-time l = record {
  total : l.total ≡ sum (take l.time-index l.times);
  few : l.total ≤ l.time-index * 2 ^ 64;
}
