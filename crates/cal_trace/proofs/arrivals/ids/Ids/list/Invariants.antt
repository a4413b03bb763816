use Rattle.cal_trace.proofs.Common.{◌≡◌, ℕ, take, is_given}
use Rattle.std.specs.BTreeSet as sets
use Rattle.std.specs.Ordering.{nat_cmp}
use Rattle.cal_trace.proofs.arrivals.ids.Ids.list.Given as goal

abbrev pub invariant-loop-one : goal.invariant-loop-one
invariant-loop-one l = record {
  known : (id : ℕ) → sets.contains nat_cmp l.self.known id ≡ is_given id (take l.one-index l.requests);
}
