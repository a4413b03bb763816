use Rattle.cal_linear.proofs.Common.{◌≡◌, ◌++◌, drop, watch_events, whole_looks_of}
use Rattle.cal_linear.proofs.watches.append_watches.Given as goal

abbrev pub invariant-loop-round : goal.invariant-loop-round
invariant-loop-round l = l.events.items ++ watch_events (whole_looks_of (drop l.round-index l.watched)) ≡ l.fn.events.items ++ watch_events (whole_looks_of l.watched)
