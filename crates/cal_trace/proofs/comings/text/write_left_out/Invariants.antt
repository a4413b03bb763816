use Rattle.cal_trace.proofs.Common.{take, map, Appends, left_out_fields, lines_of}
use Rattle.cal_trace.proofs.comings.text.write_left_out.Given as goal

abbrev pub invariant-loop-of_task : goal.invariant-loop-of_task
invariant-loop-of_task g l = Appends (g.W.Write.contents l.initial.writer) (g.W.Write.contents l.writer) (lines_of (map left_out_fields (take l.of_task-index l.left_out)))
