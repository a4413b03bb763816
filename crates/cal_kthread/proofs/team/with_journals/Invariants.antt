use Rattle.cal_kthread.proofs.Common.{◌≡◌, ◌++◌, into_iter_items}
use Rattle.cal_kthread.proofs.team.with_journals.Given as goal

abbrev pub invariant-loop-thread : goal.invariant-loop-thread
invariant-loop-thread l = l.kept.items ++ into_iter_items l.thread-iterator ≡ l.fn.threads.items
