use Rattle.cal_run.proofs.Common.{subst, IfOk, IfOk-weaker, Policy, HeadlineBy, IsRunEndBy, outcome_of, RunEnd}
use Rattle.cal_run.proofs.one_thread.lockstep_end_by.Goals as goal

pub returns-clause-run : goal.returns-clause-run
returns-clause-run c =
    let P : Policy → Type 0 = λ p. IfOk c.end_parts.result (IsRunEndBy p c.args.config.now c.args.arrivals.now) in
    subst P c.in_ok-parts.ensures.policy c.end_parts.ensures.run

pub returns-clause-headline : goal.returns-clause-headline
returns-clause-headline c =
    IfOk-weaker c.end_parts.result (IsRunEndBy c.args.policy c.args.config.now c.args.arrivals.now) (λ (end : RunEnd). HeadlineBy c.args.policy c.args.config.now (outcome_of end))
    (λ end run. c.headline_of_runs_by.ensures c.args.policy c.args.config.now c.args.arrivals.now (outcome_of end) c.limits.ensures run) (returns-clause-run c)
