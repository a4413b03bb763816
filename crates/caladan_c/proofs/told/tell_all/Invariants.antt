use Rattle.caladan_c.proofs.Common.{◌≡◌, length, ℕ, ◌<◌, Some, slice_get, Action, told_of}
use Rattle.caladan_c.proofs.told.tell_all.Given as goal

abbrev pub invariant-loop-k : goal.invariant-loop-k
invariant-loop-k l = record {
  size : length l.out ≡ length l.initial.out;
  told : (j : ℕ) (action : Action) → j < l.k → slice_get l.actions j ≡ Some action → slice_get l.out j ≡ Some (told_of action);
}
