use Rattle.std.proofs.Common.{◌≡◌, take}
use Rattle.cal_facts.specs.Cells.{clocks_of}
use Rattle.cal_facts.proofs.cells.clocks_of.Given as goal

abbrev pub invariant-loop-entry : goal.invariant-loop-entry
invariant-loop-entry l = record {
  clocks : l.clocks.items ≡ clocks_of (take l.entry-index l.history);
}
