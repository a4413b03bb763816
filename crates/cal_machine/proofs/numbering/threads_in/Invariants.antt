use Rattle.std.proofs.Common.{◌≡◌, ◌*◌, ◌≤◌, take}
use Rattle.cal_machine.specs.Tasks.{threads_in}
use Rattle.cal_machine.proofs.numbering.threads_in.Given as goal

abbrev pub invariant-loop-task : goal.invariant-loop-task
invariant-loop-task l = (l.threads ≡ threads_in (take l.task-index l.tasks)) × (l.threads ≤ 255 * l.task-index)
