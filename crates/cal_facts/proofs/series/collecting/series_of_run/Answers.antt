use Rattle.cal_facts.proofs.Common.{◌∙◌, ap, Table, series_of}
use Rattle.cal_facts.proofs.series.collecting.series_of_run.Goals as goal

pub returns-clause-points : goal.returns-clause-points
returns-clause-points c =
    let run = c.in_ok-collected_by.ensures.run c.args.arrivals c.in_ok-given.ensures.planned in record {
      given = c.collected_by.new.given;
      outcome = run.outcome;
      run = run.run;
      are = run.collected ∙ ap (λ (t : Table). series_of t run.outcome.history) c.in_ok-collected_by.ensures.suits;
    }
