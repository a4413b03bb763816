use Rattle.cal_kthread.proofs.Common.{◌≡◌, ◌<◌, ℕ, [], length, Gathers, sources_at}
use Rattle.cal_kthread.proofs.end.settling.settle.Given as goal

abbrev pub invariant-loop-k : goal.invariant-loop-k
invariant-loop-k g l = Gathers l.initial.ends l.ends × (length l.ends ≡ length l.initial.ends) × ((j : ℕ) → j < l.k → sources_at j l.ends ≡ [])
