use Rattle.std.proofs.Common.{◌≡◌, replicate}
use Rattle.cal_paced.proofs.rounds.Keeping.new.Given as goal

abbrev pub invariant-loop : goal.invariant-loop
invariant-loop l = l.saved.items ≡ replicate l.counter 0
