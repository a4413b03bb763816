use Rattle.std.proofs.Common.{◌≡◌, None}
use Rattle.cal_policy.specs.Pass.Choice.{lowest_below}
use Rattle.cal_view.specs.Guarantees.{waits_behind}
use Rattle.cal_view.proofs.jobs.checking.guarantees.least_before.Given as goal

abbrev pub invariant-loop-u : goal.invariant-loop-u
invariant-loop-u l = lowest_below (waits_behind l.config l.t) l.u ≡ None
