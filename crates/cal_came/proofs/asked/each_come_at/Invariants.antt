use Rattle.std.proofs.Common.{◌≡◌, map, take}
use Rattle.cal_came.specs.Asked.{come_at}
use Rattle.cal_came.proofs.asked.each_come_at.Given as goal

abbrev pub invariant-loop-coming : goal.invariant-loop-coming
invariant-loop-coming l = l.came.items ≡ map (come_at l.turns) (take l.coming-index l.comings)
