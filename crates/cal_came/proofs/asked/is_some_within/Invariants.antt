use Rattle.std.proofs.Common.{◌≡◌, false, take}
use Rattle.cal_came.specs.Asked.{is_some_within}
use Rattle.cal_came.proofs.asked.is_some_within.Given as goal

-- of those so far none
abbrev pub invariant-loop-one : goal.invariant-loop-one
invariant-loop-one l = is_some_within l.window (take l.one-index l.came) ≡ false
