use Rattle.cal_policy.proofs.Common.{◌≡◌, ℕ, ◌<◌, List, Some, slice_get, Seen, last_shown, IsFitLook, KeepingAgrees}
use Rattle.cal_policy.proofs.judgement.judging.each_fits.Given as goal

abbrev pub invariant-loop-k : goal.invariant-loop-k
invariant-loop-k l =
    (looks : List (List Seen)) → KeepingAgrees l.fn.keeping looks →
    (j : ℕ) → j < l.k → (look : Seen) → slice_get l.seen j ≡ Some look → IsFitLook (last_shown looks j) look
