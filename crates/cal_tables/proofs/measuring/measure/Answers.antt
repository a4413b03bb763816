use Rattle.std.proofs.Common.{◌≡◌, Err, rules}
use Rattle.cal_tables.specs.Measuring.{asked_for}
use Rattle.cal_tables.proofs.Verdicts.{failed_for}
use Rattle.cal_tables.proofs.measuring.measure.Goals as goal

pub returns-in_err-verdict-clause-exact : goal.returns-in_err-verdict-clause-exact
returns-in_err-verdict-clause-exact g c =
    let same : c.from_residual.result ≡ Err c.in_err-verdict.field-0.0 = search rules in
    rw same (failed_for c.args.asked c.in_err-verdict.field-0.0 (asked_for c.args.asked) c.in_err-verdict.ensures.fault)
