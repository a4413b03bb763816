use Rattle.std.proofs.Common.{◌≡◌, drop}
use Rattle.toml.specs.View.{items_view}
use Rattle.cal_machine.specs.Reading.{tasks_from}
use Rattle.cal_machine.proofs.TaskLists.{with_front}
use Rattle.cal_machine.proofs.table.tasks_from.Given as goal

abbrev pub invariant-loop-item : goal.invariant-loop-item
invariant-loop-item l = with_front l.tasks.items (tasks_from (items_view (drop l.item-index l.items))) ≡ tasks_from (items_view l.items)
