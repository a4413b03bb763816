use Rattle.cal_trace.proofs.Common.{take, map, Appends, request_fields, lines_of}
use Rattle.cal_trace.proofs.arrivals.text.write_requests.Given as goal

abbrev pub invariant-loop-arrival : goal.invariant-loop-arrival
invariant-loop-arrival g l = Appends (g.W.Write.contents l.initial.writer) (g.W.Write.contents l.writer) (lines_of (map request_fields (take l.arrival-index l.requests)))
