use Rattle.cal_trace.proofs.Common.{take, map, Appends, coming_fields, lines_of}
use Rattle.cal_trace.proofs.comings.text.write_requests.Given as goal

abbrev pub invariant-loop-coming : goal.invariant-loop-coming
invariant-loop-coming g l = Appends (g.W.Write.contents l.initial.writer) (g.W.Write.contents l.writer) (lines_of (map coming_fields (take l.coming-index l.requests)))
