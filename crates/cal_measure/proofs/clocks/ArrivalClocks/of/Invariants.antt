use Rattle.std.proofs.Common.{◌≡◌, ℕ, nat_eq, take}
use Rattle.std.specs.HashMap.{get}
use Rattle.cal_came.specs.Came.{told_of}
use Rattle.cal_measure.proofs.clocks.ArrivalClocks.of.Given as goal

abbrev pub invariant-loop-one : goal.invariant-loop-one
invariant-loop-one l = (id : ℕ) → get nat_eq l.all id ≡ told_of (take l.one-index l.came) id
