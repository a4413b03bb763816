use Rattle.std.proofs.Common.{◌≡◌, ◌≤◌}
use Rattle.test_policy.proofs.command.send_all.Given as goal

abbrev pub invariant-loop : goal.invariant-loop
invariant-loop g l = (l.sender.ring ≡ l.initial.sender.ring) × (l.next ≤ l.count)
