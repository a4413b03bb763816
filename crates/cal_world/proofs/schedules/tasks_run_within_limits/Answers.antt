use Rattle.cal_world.proofs.Common.{take, AreWithinLimits}
use Rattle.cal_world.proofs.ScheduleLemmas.Running.{within_limit}
use Rattle.cal_world.proofs.ScheduleLemmas.Safety.{of_legal}
use Rattle.cal_world.proofs.schedules.tasks_run_within_limits.Goals as goal

pub returns-clause-safe : goal.returns-clause-safe
returns-clause-safe c = λ table events ok is n le t low.
    within_limit c.permitted_is_steady.ensures table (take n events) ok (c.histories_are_permitted.ensures table events ok is n le)
    (c.threads_run_by_their_last_run.ensures.safe table events ok is n le) t low

pub returns-clause-legal : goal.returns-clause-legal
returns-clause-legal c = of_legal AreWithinLimits c.legal_lists_are_safe.ensures (returns-clause-safe c)
