use Rattle.std.proofs.Common.{◌≡◌}
use Rattle.test_policy.proofs.command.take_all.Given as goal

abbrev pub invariant-loop : goal.invariant-loop
invariant-loop g l = l.taker.ring ≡ l.initial.taker.ring
