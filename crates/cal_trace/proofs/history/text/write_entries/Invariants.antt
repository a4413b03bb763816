use Rattle.cal_trace.proofs.Common.{take, flat_map, Appends, entry_rows, lines_of}
use Rattle.cal_trace.proofs.history.text.write_entries.Given as goal

abbrev pub invariant-loop-entry : goal.invariant-loop-entry
invariant-loop-entry g l = Appends (g.W.Write.contents l.initial.writer) (g.W.Write.contents l.writer) (lines_of (flat_map entry_rows (take l.entry-index l.history)))
