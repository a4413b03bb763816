use Rattle.caladan_c.proofs.Common.{◌≡◌, ℕ, ◌<◌, List, Some, length, slice_get, IsStateAfter, fault_of, PassEntry, look_of_found, said_of, Found}
use Rattle.caladan_c.proofs.judging.say_each.Given as goal

abbrev pub invariant-loop-k : goal.invariant-loop-k
invariant-loop-k l = record {
  room : length l.judged ≡ length l.initial.judged;
  said : (h : List PassEntry) → IsStateAfter l.board h → (j : ℕ) (o : Found) → j < l.k → slice_get l.looks j ≡ Some o →
      slice_get l.judged j ≡ Some (said_of (fault_of l.config.cores h j (look_of_found o)) (look_of_found o));
}
