use Rattle.cal_run.proofs.Common.{subst, IfOk, IfOk-weaker, Policy, HeadlineBy, IsRunBy}
use Rattle.cal_run.proofs.one_thread.lockstep_by.Goals as goal

pub returns-clause-run : goal.returns-clause-run
returns-clause-run c =
    let P : Policy → Type 0 = λ p. IfOk c.close_parts.result (IsRunBy p c.args.config.now c.args.arrivals.now) in
    subst P c.in_ok-parts.ensures.policy c.close_parts.ensures.run

pub returns-clause-headline : goal.returns-clause-headline
returns-clause-headline c =
    IfOk-weaker c.close_parts.result (IsRunBy c.args.policy c.args.config.now c.args.arrivals.now) (HeadlineBy c.args.policy c.args.config.now)
    (λ outcome run. c.headline_of_runs_by.ensures c.args.policy c.args.config.now c.args.arrivals.now outcome c.limits.ensures run) (returns-clause-run c)
