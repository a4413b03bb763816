use Rattle.cal_policy.proofs.Common.{◌≡◌, ◌<◌, ◌≤◌, ℕ, List, false, Action, held_by, is_over, Agrees, secure_of}
use Rattle.cal_policy.proofs.board.counts.some_is_over.Given as goal

abbrev pub invariant-loop-task : goal.invariant-loop-task
invariant-loop-task l = record {
  none : (x : List Action) → Agrees l.board x → (t : ℕ) → t < l.task → is_over l.config x t ≡ false;
  secure : (x : List Action) → Agrees l.board x → (t : ℕ) → t < l.task → held_by l.config x t ≤ secure_of l.config t;
}
