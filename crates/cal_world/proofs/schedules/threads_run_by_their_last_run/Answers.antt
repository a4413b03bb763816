use Rattle.cal_world.proofs.Common.{take, AreByTheirLastRun}
use Rattle.cal_world.proofs.ScheduleLemmas.Invariant.{holds}
use Rattle.cal_world.proofs.ScheduleLemmas.Running.{by_last_run}
use Rattle.cal_world.proofs.ScheduleLemmas.Safety.{of_legal}
use Rattle.cal_world.proofs.schedules.threads_run_by_their_last_run.Goals as goal

pub returns-clause-safe : goal.returns-clause-safe
returns-clause-safe c = λ table events ok is n le k core on.
    by_last_run table (take n events) (holds c.permitted_is_safe.ensures c.action_is_one_more.ensures c.look_is_one_more.ensures table events ok is n le) k core on

pub returns-clause-legal : goal.returns-clause-legal
returns-clause-legal c = of_legal AreByTheirLastRun c.legal_lists_are_safe.ensures (returns-clause-safe c)
