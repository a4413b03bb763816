use Rattle.std.proofs.Common.{◌≡◌, length}
use Rattle.cal_run.specs.Collecting.{AreEmpty}
use Rattle.cal_run.proofs.collector.collected.OpenCollection.new.Given as goal

abbrev pub invariant-loop : goal.invariant-loop
invariant-loop l = record {
  count : length l.journals.items ≡ l.counter;
  empty : AreEmpty l.journals.items;
}
