use Rattle.cal_kthread.proofs.Common.{◌≡◌, ◌≢◌, ℕ, length, Gathers, sources_at}
use Rattle.cal_kthread.proofs.end.settling.give_all.Given as goal

abbrev pub invariant-loop : goal.invariant-loop
invariant-loop g l = Gathers l.initial.ends l.ends × (length l.ends ≡ length l.initial.ends) × ((j : ℕ) → j ≢ l.k → sources_at j l.ends ≡ sources_at j l.initial.ends)

abbrev pub decreases-loop : goal.decreases-loop
decreases-loop g l = length (sources_at l.k l.ends)
