use Rattle.cal_measure.proofs.Common.{◌≡◌, timed_at, joined_below}
use Rattle.cal_measure.proofs.ends.timed_of.Given as goal

abbrev pub invariant-loop-place : goal.invariant-loop-place
invariant-loop-place l = l.timed.items ≡ joined_below (timed_at l.last l.turns) l.place
