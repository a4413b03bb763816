use Rattle.std.proofs.Common.{◌≡◌, ◌<◌, ℕ, slice_index}
use Rattle.cal_machine.specs.Tasks.{first_thread, task_of}
use Rattle.cal_machine.proofs.numbering.owners_of.Given as goal

abbrev pub invariant-loop-t : goal.invariant-loop-t
invariant-loop-t l = (l.next ≡ first_thread l.tasks l.t) × ((k : ℕ) → k < l.next → slice_index l.owners k ≡ task_of l.tasks k)
