use Rattle.cal_linear.proofs.Common.{◌≡◌, ◌++◌, drop, watch_events, whole_looks_from}
use Rattle.cal_linear.proofs.watches.append_round.Given as goal

abbrev pub invariant-loop-k : goal.invariant-loop-k
invariant-loop-k l = l.events.items ++ watch_events (whole_looks_from l.k (drop l.k l.looks)) ≡ l.fn.events.items ++ watch_events (whole_looks_from 0 l.looks)
