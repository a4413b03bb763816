use Rattle.cal_linear.proofs.Common.{◌≡◌, ◌++◌, take, each_of, furthest, pass_events, AreFronts, places_in}
use Rattle.cal_linear.proofs.passes.append_passes.Given as goal

abbrev pub invariant-loop-entry : goal.invariant-loop-entry
invariant-loop-entry l = record {
  appended : l.events.items ≡ l.fn.events.items ++ each_of (pass_events l.journals) (take l.entry-index l.history);
  places : places_in l.fronts ≡ furthest (take l.entry-index l.history);
  listed : AreFronts l.journals l.fronts;
}
