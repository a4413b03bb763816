use Rattle.cal_paced.proofs.Common.{◌≡◌, ◌++◌, passes_before}
use Rattle.cal_paced.proofs.pacing.put_passes.Given as goal

-- the first passes were added
abbrev pub invariant-loop-i : goal.invariant-loop-i
invariant-loop-i l = l.paced.items ≡ l.initial.paced.items ++ passes_before l.pace l.before l.turn l.bandwidth l.i
