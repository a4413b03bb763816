use Rattle.cal_facts.proofs.Common.{Result, subst, sym, RunFault, Subject, series_text, text_of_series, IsAskedText}
use Rattle.cal_facts.proofs.WrittenLemmas.{series_of_history, series_of_run}
use Rattle.cal_facts.proofs.series.series_asked.Goals as goal

pub returns-in_ok-points-in-Run-clause-points : goal.returns-in_ok-points-in-Run-clause-points
returns-in_ok-points-in-Run-clause-points c =
    let points = c.in_ok-points-in-Run.points.items in
    subst (λ (o : Result Subject RunFault). IsAskedText c.args.plan c.args.policy series_text o (text_of_series c.in-Run.config points)) (sym (rw (c.is_some.ensures, c.in-Run.is) at c.in_ok-config.ensures.exact))
    (series_of_run c.args.plan c.args.policy c.in-Run.config c.in-Run.arrivals points c.in_ok-points-in-Run.ensures.points)

pub returns-in_ok-points-in-History-clause-points : goal.returns-in_ok-points-in-History-clause-points
returns-in_ok-points-in-History-clause-points c =
    let points = c.in_ok-points-in-History.points.items in
    subst (λ (o : Result Subject RunFault). IsAskedText c.args.plan c.args.policy series_text o (text_of_series c.in-History.config points)) (sym (rw (c.is_some.ensures, c.in-History.is) at c.in_ok-config.ensures.exact))
    (series_of_history c.in-History.config _ c.in-History.history.items points c.as_slice.ensures.value c.in_ok-points-in-History.ensures)
