use Rattle.cal_tables.proofs.Common.{subst, IsCountedRun}
use Rattle.std.specs.Prelude.{IfOk}
use Rattle.cal_came.specs.declared.counted.Counted.{Counted}
use Rattle.cal_tables.proofs.measuring.measured_run.Goals as goal

pub returns-clause-numbers : goal.returns-clause-numbers
returns-clause-numbers c =
    subst (λ (counted : Counted). IfOk c.counted_run.result (IsCountedRun c.args.policy c.args.config.now c.args.arrivals.now counted)) c.in_ok-counted.ensures c.counted_run.ensures.numbers
