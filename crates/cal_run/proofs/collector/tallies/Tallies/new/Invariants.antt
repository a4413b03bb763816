use Rattle.cal_run.proofs.Common.{◌≡◌, replicate, NONE}
use Rattle.cal_run.proofs.collector.tallies.Tallies.new.Given as goal

abbrev pub invariant-loop : goal.invariant-loop
invariant-loop l = l.tallies.items ≡ replicate l.counter NONE
