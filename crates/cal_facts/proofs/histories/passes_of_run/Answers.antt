use Rattle.cal_facts.proofs.histories.passes_of_run.Goals as goal

pub returns-clause-passes : goal.returns-clause-passes
returns-clause-passes c =
    let run = c.in_ok-collected_by.ensures.run c.args.arrivals c.in_ok-given.ensures.planned in record {
      given = c.collected_by.new.given;
      outcome = run.outcome;
      run = run.run;
      are = run.collected;
    }
