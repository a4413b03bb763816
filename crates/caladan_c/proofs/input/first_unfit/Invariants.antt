use Rattle.caladan_c.proofs.Common.{◌≡◌, ℕ, ◌<◌, List, Some, None, slice_get, PassEntry, is_unfit, IsStateAfter, Found}
use Rattle.caladan_c.proofs.input.first_unfit.Given as goal

abbrev pub invariant-loop-k : goal.invariant-loop-k
invariant-loop-k l =
    (h : List PassEntry) → IsStateAfter l.board h → (j : ℕ) (o : Found) → j < l.k → slice_get l.looks j ≡ Some o → is_unfit h j o ≡ None
