use Rattle.std.proofs.Common.{◌≡◌, Err, rules}
use Rattle.cal_tables.proofs.Verdicts.{refused_parts, run_asked}
use Rattle.cal_tables.proofs.asking.read_either.Goals as goal

pub returns-in_err-config-clause-fault : goal.returns-in_err-config-clause-fault
returns-in_err-config-clause-fault c =
    let same : c.from_residual.result ≡ Err c.in_err-config.field-0.0 = search rules in
    rw same (refused_parts c.args.input.now c.in_err-config.field-0.0 c.in_err-config.ensures)

pub returns-in-Ok-clause-exact : goal.returns-in-Ok-clause-exact
returns-in-Ok-clause-exact c =
    run_asked c.args.input.now c.in_ok-config.config c.in_ok-config.trace.now c.in-Ok.arrivals c.in_ok-config.ensures c.in-Ok.ensures.gives
