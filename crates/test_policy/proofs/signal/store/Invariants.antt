use Rattle.std.proofs.Common.{◌≡◌}
use Rattle.test_policy.proofs.signal.store.Given as goal

abbrev pub invariant-loop : goal.invariant-loop
invariant-loop l = l.page.page ≡ l.initial.page.page
