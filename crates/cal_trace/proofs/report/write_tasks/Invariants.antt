use Rattle.cal_trace.proofs.Common.{List, Appends, Action, task_lines}
use Rattle.cal_policy.specs.State.{Agrees}
use Rattle.cal_trace.proofs.report.write_tasks.Given as goal

abbrev pub invariant-loop-task : goal.invariant-loop-task
invariant-loop-task g l = (x : List Action) → Agrees l.board x → Appends (g.W.Write.contents l.initial.writer) (g.W.Write.contents l.writer) (task_lines l.config x l.task)
