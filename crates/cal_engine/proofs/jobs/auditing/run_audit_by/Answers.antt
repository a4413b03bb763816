use Rattle.cal_engine.proofs.Common.{◌≡◌, Err, rules, recorded_run_of, refused}
use Rattle.cal_engine.proofs.jobs.auditing.run_audit_by.Goals as goal

pub returns-in_err-verdict-clause-exact : goal.returns-in_err-verdict-clause-exact
returns-in_err-verdict-clause-exact g c =
    let fault : c.from_residual-in_err-verdict.result ≡ Err c.in_err-verdict.field-0.0 = search rules in
    rw fault (refused (g.R.Read.remaining c.args.reader) (g.R.Read.remaining c.read_input.new.reader) c.in_ok-input.input.items recorded_run_of c.in_err-verdict.field-0.0
    c.in_ok-input.ensures.all c.in_ok-input.ensures.end c.in_ok-input.ensures.short (rw c.as_slice.ensures.value at c.in_err-verdict.ensures.fault))
