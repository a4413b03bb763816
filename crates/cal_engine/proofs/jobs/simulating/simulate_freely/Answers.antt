use Rattle.cal_engine.proofs.Common.{IfOk-weaker, IsLegalBy, outcome_of}
use Rattle.cal_run.specs.Outcome.Headline.{HeadlineBy}
use Rattle.cal_run.specs.declared.outcome.RunEnd.{RunEnd}
use Rattle.cal_engine.proofs.jobs.simulating.simulate_freely.Goals as goal

pub returns-clause-legal : goal.returns-clause-legal
returns-clause-legal g c =
    let policy = c.args.accepted.now.policy in
    let table = c.args.accepted.now.config.now in
    IfOk-weaker c.simulation_end_by.result (λ (end : RunEnd). HeadlineBy policy table (outcome_of end)) (λ (end : RunEnd). IsLegalBy policy table end.history)
    (λ end headline. headline.history) c.simulation_end_by.ensures.headline
