use Rattle.cal_trace.proofs.Common.{take, map, Appends, action_fields, lines_of}
use Rattle.cal_trace.proofs.history.text.write_actions.Given as goal

abbrev pub invariant-loop-action : goal.invariant-loop-action
invariant-loop-action g l = Appends (g.W.Write.contents l.initial.writer) (g.W.Write.contents l.writer) (lines_of (map action_fields (take l.action-index l.actions)))
