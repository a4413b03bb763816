use Rattle.cal_policy.proofs.Common.{◌≡◌, ℕ, ◌<◌, Some, slice_get, take, PassEntry, IsPassBy}
use Rattle.cal_policy.proofs.verdict.audit_by.Given as goal

abbrev pub invariant-loop-p : goal.invariant-loop-p
invariant-loop-p l =
    (q : ℕ) → q < l.p → (entry : PassEntry) → slice_get l.history q ≡ Some entry → IsPassBy l.policy l.config (take q l.history) entry
