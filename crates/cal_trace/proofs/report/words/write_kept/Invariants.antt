use Rattle.cal_trace.proofs.Common.{take, Appends}
use Rattle.cal_trace.specs.Report.Words.{kept_lines}
use Rattle.cal_trace.proofs.report.words.write_kept.Given as goal

abbrev pub invariant-loop-thread : goal.invariant-loop-thread
invariant-loop-thread g l = Appends (g.W.Write.contents l.initial.writer) (g.W.Write.contents l.writer) (kept_lines (take l.thread l.seen))
