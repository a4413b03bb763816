use Rattle.cal_world.proofs.Common.{take, NoCoreRunsTwo}
use Rattle.cal_world.proofs.ScheduleLemmas.Running.{only_one}
use Rattle.cal_world.proofs.ScheduleLemmas.Safety.{of_legal}
use Rattle.cal_world.proofs.schedules.no_core_runs_two.Goals as goal

pub returns-clause-safe : goal.returns-clause-safe
returns-clause-safe c = λ table events ok is n le j k core on_j on_k.
    let by = c.threads_run_by_their_last_run.ensures.safe table events ok is n le in
    only_one table (take n events) j k core (by j core on_j) (by k core on_k)

pub returns-clause-legal : goal.returns-clause-legal
returns-clause-legal c = of_legal NoCoreRunsTwo c.legal_lists_are_safe.ensures (returns-clause-safe c)
