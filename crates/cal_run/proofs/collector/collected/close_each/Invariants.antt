use Rattle.cal_run.proofs.Common.{◌≡◌, ◌++◌, into_iter_items}
use Rattle.cal_run.proofs.collector.collected.close_each.Given as goal

abbrev pub invariant-loop-journal : goal.invariant-loop-journal
invariant-loop-journal l = l.closed.items ++ into_iter_items l.journal-iterator ≡ l.fn.journals.items
