use Rattle.cal_trace.proofs.Common.{take, Appends, look_rows, lines_of}
use Rattle.cal_trace.proofs.history.text.write_looks.Given as goal

abbrev pub invariant-loop-thread : goal.invariant-loop-thread
invariant-loop-thread g l = Appends (g.W.Write.contents l.initial.writer) (g.W.Write.contents l.writer) (lines_of (look_rows l.rooms (take l.thread l.seen)))
