use Rattle.cal_facts.proofs.Common.{◌≡◌, Err, List, rules, subst, Appends, failed_by, asked_by, series_text, text_of_series, Point}
use Rattle.std.specs.Option.{is_some}
use Rattle.cal_facts.proofs.WrittenLemmas.{text_may_run}
use Rattle.cal_facts.proofs.series.write_series.Goals as goal

pub returns-in_err-config-clause-exact : goal.returns-in_err-config-clause-exact
returns-in_err-config-clause-exact g c =
    let same : c.from_residual.result ≡ Err c.in_err-config.field-0.0 = search rules in
    rw same (failed_by c.args.plan c.in_err-config.field-0.0 (asked_by (is_some c.args.plan) c.args.input.now) c.in_err-config.ensures.fault)

pub returns-in-Ok-clause-exact : goal.returns-in-Ok-clause-exact
returns-in-Ok-clause-exact g c = record {
  written = text_of_series c.in_ok-config.config c.in_ok-config.points.items;
  is_text = c.in_ok-config.ensures.points;
  appended = subst
      (λ (l : List Point). Appends (g.W.Write.contents c.args.writer.now) (g.W.Write.contents c.write_series_rows.new.writer) (text_of_series c.in_ok-config.config l))
      c.as_slice.ensures.value c.in-Ok.ensures;
}

pub returns-clause-exact : goal.returns-clause-exact
returns-clause-exact g c =
    text_may_run c.args.plan c.args.policy series_text (asked_by (is_some c.args.plan) c.args.input.now) (text_of_series c.in_ok-config.config c.in_ok-config.points.items) c.in_ok-config.ensures.points
