use Rattle.cal_engine.proofs.Common.{IfOk-weaker, outcome_of}
use Rattle.cal_engine.proofs.jobs.simulating.simulation_on.Goals as goal

pub returns-clause-text : goal.returns-clause-text
returns-clause-text g c =
    IfOk-weaker c.run_text.result _ _ (λ text made. record { outcome = outcome_of c.in_ok-end.end; run = c.in_ok-end.ensures.run; made = made }) c.run_text.ensures.text
