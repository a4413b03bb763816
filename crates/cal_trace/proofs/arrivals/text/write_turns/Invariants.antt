use Rattle.cal_trace.proofs.Common.{take, map, Appends, turn_fields, lines_of}
use Rattle.cal_trace.proofs.arrivals.text.write_turns.Given as goal

abbrev pub invariant-loop-now : goal.invariant-loop-now
invariant-loop-now g l = Appends (g.W.Write.contents l.initial.writer) (g.W.Write.contents l.writer) (lines_of (map turn_fields (take l.now-index l.turns)))
