use Rattle.cal_linear.proofs.Common.{◌≡◌, ◌++◌, drop, rests_from, places_in}
use Rattle.cal_linear.proofs.passes.append_rests.Given as goal

abbrev pub invariant-loop-k : goal.invariant-loop-k
invariant-loop-k l = l.events.items ++ rests_from (places_in l.fronts) l.k (drop l.k l.journals) ≡ l.fn.events.items ++ rests_from (places_in l.fronts) 0 l.journals
