use Rattle.cal_policy.proofs.Common.{◌≡◌, ℕ, ◌<◌, ◌≤◌, false, not, get_or, has_thread}
use Rattle.cal_policy.proofs.pass.terms.full_rings.Given as goal

abbrev pub invariant-loop-k : goal.invariant-loop-k
invariant-loop-k l = record {
  below : (j : ℕ) → j < l.k → not (has_thread l.full j) ≡ get_or l.rooms j false;
  above : (j : ℕ) → l.k ≤ j → has_thread l.full j ≡ false;
}
