use Rattle.cal_facts.proofs.Common.{◌≡◌, ◌++◌, List, Move, open_of}
use Rattle.cal_measure.specs.Spans.Tracking.{Tracks}
use Rattle.cal_facts.proofs.spans.gathering.put_open.Given as goal

abbrev pub invariant-loop-core : goal.invariant-loop-core
invariant-loop-core l = (moves : List Move) → Tracks l.tracker moves → l.spans.items ≡ l.initial.spans.items ++ open_of moves l.core
