use Rattle.cal_facts.proofs.Common.{◌≡◌, Err, rules, run_input_of, asked_run, text_of_requests}
use Rattle.cal_tables.proofs.Verdicts.{failed_for}
use Rattle.cal_facts.proofs.WrittenLemmas.{run_may, served_asked}
use Rattle.cal_facts.proofs.requests.write_requests.Goals as goal

pub returns-in_err-run-clause-exact : goal.returns-in_err-run-clause-exact
returns-in_err-run-clause-exact g c =
    let same : c.from_residual.result ≡ Err c.in_err-run.field-0.0 = search rules in
    rw same (failed_for c.args.asked c.in_err-run.field-0.0 (asked_run (run_input_of c.args.asked.bytes.now)) c.in_err-run.ensures.fault)

pub returns-in-Ok-clause-exact : goal.returns-in-Ok-clause-exact
returns-in-Ok-clause-exact g c =
    let run = c.in_ok-run.run' in
    let told = served_asked c.args.asked (run_input_of c.args.asked.bytes.now) run c.in_ok-run.ensures.run in record {
      written = text_of_requests run.config run.arrivals told.0 told.1;
      is_text = told.4;
      appended = c.in-Ok.ensures told.0 told.1 told.2 told.3;
    }

pub returns-clause-exact : goal.returns-clause-exact
returns-clause-exact g c = run_may c.args.asked (run_input_of c.args.asked.bytes.now) c.in_ok-run.run' c.in_ok-run.ensures.run
