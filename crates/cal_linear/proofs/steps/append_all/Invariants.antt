use Rattle.cal_linear.proofs.Common.{◌≡◌, ◌++◌, take, events_of}
use Rattle.cal_linear.proofs.steps.append_all.Given as goal

abbrev pub invariant-loop-entry : goal.invariant-loop-entry
invariant-loop-entry l = l.events.items ≡ l.fn.events.items ++ events_of l.thread (take l.entry-index l.entries)
