use Rattle.std.proofs.Common.{take}
use Rattle.cal_load.specs.Loads.{AreHeld}
use Rattle.cal_load.proofs.limits.are_held.Given as goal

-- the loads so far
abbrev pub invariant-loop-place : goal.invariant-loop-place
invariant-loop-place l = AreHeld l.table (take l.place l.loads)
