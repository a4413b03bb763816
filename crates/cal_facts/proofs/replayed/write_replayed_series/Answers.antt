use Rattle.cal_facts.proofs.Common.{◌∙◌, List, ap, subst, Appends, PassEntry, Point, series_of, text_of_series}
use Rattle.cal_facts.proofs.ReplayLemmas.{series_replayed}
use Rattle.cal_facts.proofs.replayed.write_replayed_series.Goals as goal

pub returns-in-Ok-clause-exact : goal.returns-in-Ok-clause-exact
returns-in-Ok-clause-exact g c =
    let config = c.in_ok-made.made.config in
    let points = c.in_ok-points.points.items in
    let is = c.in_ok-made.made in
    record {
      written = text_of_series config points;
      is_text = series_replayed c.args.plan c.args.input.now c.args.history.now is points c.in_ok-made.ensures.replay
          (c.in_ok-points.ensures ∙ ap (λ (h : List PassEntry). series_of config h) c.as_slice.ensures.value);
      appended = subst
          (λ (l : List Point). Appends (g.W.Write.contents c.args.writer.now) (g.W.Write.contents c.write_series_rows.new.writer) (text_of_series config l))
          c.as_slice-2.ensures.value c.in-Ok.ensures;
    }
