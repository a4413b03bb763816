use Rattle.std.proofs.Common.{◌≡◌, ℕ, ◌<◌, Some, length, slice_get}
use Rattle.caladan_c.proofs.told.judgement.tell_kept.Given as goal

abbrev pub invariant-loop-k : goal.invariant-loop-k
invariant-loop-k l = record {
  size : length l.out ≡ length l.initial.out;
  told : (j : ℕ) → j < l.k → slice_get l.out j ≡ Some 1;
}
