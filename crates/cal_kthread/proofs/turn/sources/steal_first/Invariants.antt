use Rattle.std.proofs.Common.{◌≡◌}
use Rattle.cal_kthread.proofs.turn.sources.steal_first.Given as goal

abbrev pub invariant-loop-place : goal.invariant-loop-place
invariant-loop-place l = l.sources.items ≡ l.initial.sources.items
