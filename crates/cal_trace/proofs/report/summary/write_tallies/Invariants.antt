use Rattle.cal_trace.proofs.Common.{List, take, AllZip, Appends, Entry, IsTallyOf, thread_lines}
use Rattle.cal_trace.proofs.report.summary.write_tallies.Given as goal

abbrev pub invariant-loop-thread : goal.invariant-loop-thread
invariant-loop-thread g l = (journals : List (List Entry)) → AllZip IsTallyOf journals l.tallies →
    Appends (g.W.Write.contents l.initial.writer) (g.W.Write.contents l.writer) (thread_lines l.left (take l.thread journals))
