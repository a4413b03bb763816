use Rattle.std.proofs.Common.{◌≡◌}
use Rattle.test_policy.proofs.signal.observe_all.Given as goal

abbrev pub invariant-loop : goal.invariant-loop
invariant-loop l = l.observer.page ≡ l.initial.observer.page
