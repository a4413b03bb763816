use Rattle.cal_trace.proofs.Common.{take, IsTallyOf}
use Rattle.cal_trace.proofs.report.tally.Tally.of.Given as goal

-- the tally is that of the entries so far
abbrev pub invariant-loop-entry : goal.invariant-loop-entry
invariant-loop-entry l = IsTallyOf (take l.entry-index l.journal) l.tally
