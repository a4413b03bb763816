use Rattle.caladan_c.proofs.Common.{◌≡◌, ℕ, ◌<◌, ◌≤◌, ◌-◌, Some, length, slice_get, judgement_at}
use Rattle.caladan_c.proofs.told.judgement.tell_looks.Given as goal

abbrev pub invariant-loop-k : goal.invariant-loop-k
invariant-loop-k l = record {
  size : length l.out ≡ length l.fn.out;
  done : (j : ℕ) → j < l.first → j < l.looks.count → slice_get l.out j ≡ Some (judgement_at l.looks j);
  left : (j : ℕ) → l.first ≤ j → j < l.looks.count → slice_get l.out j ≡ Some 1;
  first : l.first ≤ l.looks.count;
}

abbrev pub decreases-loop-k : goal.decreases-loop-k
decreases-loop-k l = l.looks.count - l.first
