use Rattle.std.proofs.Common.{subst, ◌∙◌}
use Rattle.std.specs.Prelude.{IfOk}
use Rattle.std.proofs.lemmas.Result.{IfOk-weaker}
use Rattle.cal_policy.specs.declared.policy.Policy.{Policy}
use Rattle.cal_run.specs.Outcome.Headline.{HeadlineBy}
use Rattle.cal_run.specs.Outcome.{IsRunBy}
use Rattle.cal_threads.proofs.Together.{threads_of_parts}
use Rattle.cal_threads.proofs.simulation.simulate_by.Goals as goal

-- The scheduler that came back goes by the policy that was given.
pub returns-in-Ok-clause-run : goal.returns-in-Ok-clause-run
returns-in-Ok-clause-run g c =
    let P : Policy → Type 0 = λ p. IfOk c.close_parts.result (IsRunBy p c.args.config.now c.args.arrivals.now) in
    subst P (c.in-Ok.ensures.policy ∙ c.in_ok-parts.ensures.policy) c.close_parts.ensures.run

pub returns-in-Ok-clause-headline : goal.returns-in-Ok-clause-headline
returns-in-Ok-clause-headline g c =
    IfOk-weaker c.close_parts.result (IsRunBy c.args.policy c.args.config.now c.args.arrivals.now) (HeadlineBy c.args.policy c.args.config.now)
    (λ outcome run. c.headline_of_runs_by.ensures c.args.policy c.args.config.now c.args.arrivals.now outcome c.limits.ensures run) (returns-in-Ok-clause-run g c)

-- There are as many workers as threads of the table.
pub returns-in-Err-clause-gate : goal.returns-in-Err-clause-gate
returns-in-Err-clause-gate g c =
    let count = threads_of_parts _ _ _ _ _ _ c.in_ok-parts.ensures.parts in
    rw count at c.in-Err.ensures.ended
