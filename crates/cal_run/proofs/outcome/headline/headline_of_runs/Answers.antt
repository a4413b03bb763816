use Rattle.cal_policy.specs.declared.policy.Policy.TheVariants.{Caladan}
use Rattle.cal_run.proofs.outcome.headline.headline_of_runs.Goals as goal

pub returns : goal.returns
returns c = c.headline_of_runs_by.ensures Caladan
