use Rattle.cal_trace.proofs.Common.{take, Appends, thread_lines}
use Rattle.cal_trace.proofs.report.summary.write_threads.Given as goal

abbrev pub invariant-loop-thread : goal.invariant-loop-thread
invariant-loop-thread g l = Appends (g.W.Write.contents l.initial.writer) (g.W.Write.contents l.writer) (thread_lines l.left (take l.thread l.journals))
