use Rattle.caladan_c.proofs.Common.{◌≡◌, ℕ, ◌<◌, List, Some, length, take, slice_get, IsStateAfter, fault_of, PassEntry, look_of_found, IsTakenAt, said_of, Found}
use Rattle.cal_policy.specs.Judgement.Settled.{SettledAreNoNews}
use Rattle.caladan_c.proofs.walk.take_each.Given as goal

abbrev pub invariant-loop-k : goal.invariant-loop-k
invariant-loop-k l = record {
  count : l.came.count ≡ l.k;
  room : length l.judged ≡ length l.fn.judged;
  taken : (h : List PassEntry) → SettledAreNoNews l.on.config.now h → IsStateAfter l.on.board.now h → IsTakenAt l.on.config.now h (take l.k l.looks) l.came;
  said : (h : List PassEntry) → SettledAreNoNews l.on.config.now h → IsStateAfter l.on.board.now h → (j : ℕ) (o : Found) → j < l.k → slice_get l.looks j ≡ Some o →
      slice_get l.judged j ≡ Some (said_of (fault_of l.on.config.now.cores h j (look_of_found o)) (look_of_found o));
}
