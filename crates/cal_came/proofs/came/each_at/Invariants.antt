use Rattle.std.proofs.Common.{◌≡◌, map, take}
use Rattle.cal_came.specs.Came.{own_came}
use Rattle.cal_came.proofs.came.each_at.Given as goal

abbrev pub invariant-loop-request : goal.invariant-loop-request
invariant-loop-request l = l.came.items ≡ map (own_came l.turns) (take l.request-index l.requests)
