use Rattle.std.proofs.Common.{◌≡◌, ℕ, ◌&&◌, nat_le, nat_lt, slice_index, if◌then◌else◌}
use Rattle.cal_machine.proofs.numbering.give.Given as goal

abbrev pub invariant-loop-k : goal.invariant-loop-k
invariant-loop-k l = (k : ℕ) → slice_index l.owners k ≡ (if nat_le l.first k && nat_lt k l.k then l.task else slice_index l.fn.owners k)
