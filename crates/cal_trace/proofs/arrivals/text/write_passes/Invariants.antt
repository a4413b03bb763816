use Rattle.cal_trace.proofs.Common.{take, map, Appends, pass_fields, lines_of}
use Rattle.cal_trace.proofs.arrivals.text.write_passes.Given as goal

abbrev pub invariant-loop-pass : goal.invariant-loop-pass
invariant-loop-pass g l = Appends (g.W.Write.contents l.initial.writer) (g.W.Write.contents l.writer) (lines_of (map pass_fields (take l.pass-index l.passes)))
