use Rattle.cal_linear.proofs.Common.{◌≡◌, ◌++◌, drop, take, looks_from, after_looks, AreFronts, places_in}
use Rattle.cal_linear.proofs.passes.append_looks.Given as goal

abbrev pub invariant-loop-k : goal.invariant-loop-k
invariant-loop-k l = record {
  appended : l.events.items ++ looks_from l.journals (places_in l.fn.fronts) l.k (drop l.k l.looks) ≡ l.fn.events.items ++ looks_from l.journals (places_in l.fn.fronts) 0 l.looks;
  places : places_in l.fronts ≡ after_looks (places_in l.fn.fronts) (take l.k l.looks);
  listed : AreFronts l.journals l.fronts;
}
