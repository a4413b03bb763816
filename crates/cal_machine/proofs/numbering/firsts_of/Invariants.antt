use Rattle.std.proofs.Common.{◌≡◌, ◌<◌, ℕ, length, slice_index}
use Rattle.cal_machine.specs.Tasks.{first_thread}
use Rattle.cal_machine.proofs.numbering.firsts_of.Given as goal

abbrev pub invariant-loop-t : goal.invariant-loop-t
invariant-loop-t l = (l.next ≡ first_thread l.tasks l.t) × (length l.firsts ≡ 16) × ((t : ℕ) → t < l.t → slice_index l.firsts t ≡ first_thread l.tasks t)
