use Rattle.std.proofs.Common.{◌≡◌, length}
use Rattle.example_guest.proofs.input_of.Given as goal

abbrev pub invariant-loop-k : goal.invariant-loop-k
invariant-loop-k l = length l.found.items ≡ l.k
