use Rattle.cal_facts.proofs.Common.{◌≡◌, Err, rules, failed_by, asked_by, spans_text, text_of_facts}
use Rattle.std.specs.Option.{is_some}
use Rattle.cal_facts.proofs.WrittenLemmas.{text_may_run}
use Rattle.cal_facts.proofs.spans.write_spans.Goals as goal

pub returns-in_err-config-clause-exact : goal.returns-in_err-config-clause-exact
returns-in_err-config-clause-exact g c =
    let same : c.from_residual.result ≡ Err c.in_err-config.field-0.0 = search rules in
    rw same (failed_by c.args.plan c.in_err-config.field-0.0 (asked_by (is_some c.args.plan) c.args.input.now) c.in_err-config.ensures.fault)

pub returns-in-Ok-clause-exact : goal.returns-in-Ok-clause-exact
returns-in-Ok-clause-exact g c = record {
  written = text_of_facts c.in_ok-config.config c.in_ok-config.facts;
  is_text = c.in_ok-config.ensures.facts;
  appended = c.in-Ok.ensures;
}

pub returns-clause-exact : goal.returns-clause-exact
returns-clause-exact g c =
    text_may_run c.args.plan c.args.policy spans_text (asked_by (is_some c.args.plan) c.args.input.now) (text_of_facts c.in_ok-config.config c.in_ok-config.facts) c.in_ok-config.ensures.facts
