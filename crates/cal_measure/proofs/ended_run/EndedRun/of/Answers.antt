use Rattle.cal_measure.proofs.Common.{subst, AreTotalsOfEach}
use Rattle.cal_measure.proofs.ended_run.EndedRun.of.Goals as goal

pub returns-clause-threads : goal.returns-clause-threads
returns-clause-threads c = λ journals each.
    subst (λ e. AreTotalsOfEach e journals c.in_ok-threads.threads.items) c.run_end.ensures (c.in_ok-threads.ensures journals each)
