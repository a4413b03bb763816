use Rattle.cal_guard.proofs.Common.{◌≡◌, ℕ, ◌<◌, Some, take, PassEntry, IsPermittedPass}
use Rattle.std.proofs.Common.{slice_get}
use Rattle.cal_guard.proofs.checking.is_permitted.Given as goal

abbrev pub invariant-loop-p : goal.invariant-loop-p
invariant-loop-p l =
    (q : ℕ) → q < l.p → (entry : PassEntry) → slice_get l.history q ≡ Some entry → IsPermittedPass l.config (take q l.history) entry
