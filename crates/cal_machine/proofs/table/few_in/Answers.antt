use Rattle.std.proofs.Common.{sym, ◌∙◌}
use Rattle.cal_machine.proofs.TaskLists.{few, none, many}
use Rattle.cal_machine.proofs.table.few_in.Goals as goal
use Rattle.cal_machine.proofs.table.few_in.Goals.{then-is_empty-via-then-is_empty, then-is_empty-via-else-is_empty+then-tasks-gt-MOST_TASKS}

pub returns-then-is_empty : goal.returns-then-is_empty
returns-then-is_empty c = elim c.then-is_empty.branch [
  | then-is_empty-via-then-is_empty w ↦ none c.args.tasks.now (sym c.is_empty.ensures ∙ w.if-is_empty.true)
  | then-is_empty-via-else-is_empty+then-tasks-gt-MOST_TASKS w ↦ many c.args.tasks.now w.if-tasks-gt-MOST_TASKS.true
]

pub returns : goal.returns
returns c = few c.args.tasks.now (sym c.is_empty.ensures ∙ c.if-is_empty.false) c.if-tasks-gt-MOST_TASKS.false
