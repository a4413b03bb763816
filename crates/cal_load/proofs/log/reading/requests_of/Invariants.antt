use Rattle.cal_load.proofs.Common.{◌≤◌, length, IsLogRow, Each}
use Rattle.cal_load.proofs.log.reading.requests_of.Given as goal

-- no more requests than rows
abbrev pub invariant-loop-k : goal.invariant-loop-k
invariant-loop-k l = record {
  each : Each (IsLogRow l.terms.tasks) l.reading.requests.items;
  few : length l.reading.requests.items ≤ l._k;
}
