use Rattle.cal_policy.proofs.Common.{◌≡◌, ◌<◌, ◌&&◌, ℕ, List, false, nat_lt, is_some, Action, held_by, preempt_class, Agrees}
use Rattle.cal_policy.proofs.pass.Pass.some_may_be_preempted.Given as goal

abbrev pub invariant-loop-other : goal.invariant-loop-other
invariant-loop-other l = (x : List Action) → Agrees l.board x → (other : ℕ) → other < l.other →
    (nat_lt 0 (held_by l.self.config.now x other) && is_some (preempt_class l.self.config.now x l.task other)) ≡ false
