use Rattle.cal_trace.proofs.Common.{take, Appends, passes_text, IsReportOf}
use Rattle.cal_trace.proofs.report.write_report.Given as goal

abbrev pub invariant-loop-pass : goal.invariant-loop-pass
invariant-loop-pass g l = record {
  of : IsReportOf (take l.pass l.history) l.report;
  text : Appends (g.W.Write.contents l.initial.writer) (g.W.Write.contents l.writer) (passes_text (take l.pass l.history));
}
