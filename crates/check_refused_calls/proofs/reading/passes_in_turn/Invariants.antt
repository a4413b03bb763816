use Rattle.cal_trace.specs.Signals.Reading.{IsOpen, rows_left}
use Rattle.check_refused_calls.proofs.reading.passes_in_turn.Given as goal

abbrev pub invariant-loop-passes : goal.invariant-loop-passes
invariant-loop-passes l = IsOpen l.rows

abbrev pub decreases-loop-passes : goal.decreases-loop-passes
decreases-loop-passes l = rows_left l.rows
