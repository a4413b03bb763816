use Rattle.std.proofs.Common.{◌≡◌}
use Rattle.test_policy.proofs.signal.publish_all.Given as goal

abbrev pub invariant-loop-place : goal.invariant-loop-place
invariant-loop-place l = l.publisher.page ≡ l.initial.publisher.page
