use Rattle.cal_trace.proofs.Common.{take, Appends, flat_map, action_line}
use Rattle.cal_trace.proofs.report.write_actions.Given as goal

abbrev pub invariant-loop-action : goal.invariant-loop-action
invariant-loop-action g l = Appends (g.W.Write.contents l.initial.writer) (g.W.Write.contents l.writer) (flat_map action_line (take l.action-index l.actions))
