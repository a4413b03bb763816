use Rattle.std.proofs.Common.{◌≡◌, ◌*◌, ◌≤◌, take}
use Rattle.cal_machine.specs.Tasks.{guaranteed_in}
use Rattle.cal_machine.proofs.numbering.guaranteed_in.Given as goal

abbrev pub invariant-loop-task : goal.invariant-loop-task
invariant-loop-task l = (l.cores ≡ guaranteed_in (take l.task-index l.tasks)) × (l.cores ≤ 255 * l.task-index)
