use Rattle.std.proofs.Common.{◌≡◌, length}
use Rattle.cal_kthread.proofs.TeamLemmas.Opened.{LinkedUpTo}
use Rattle.cal_kthread.proofs.team.link_tasks.Given as goal

abbrev pub invariant-loop-t : goal.invariant-loop-t
invariant-loop-t l = LinkedUpTo l.config.tasks l.t l.initial.threads l.threads × (length l.threads ≡ length l.initial.threads)
