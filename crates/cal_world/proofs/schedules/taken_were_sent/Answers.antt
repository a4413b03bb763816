use Rattle.cal_world.proofs.Common.{take, TakenWereSent}
use Rattle.cal_world.proofs.ScheduleLemmas.Invariant.{holds}
use Rattle.cal_world.proofs.ScheduleLemmas.Running.{taken_first}
use Rattle.cal_world.proofs.ScheduleLemmas.Safety.{of_legal}
use Rattle.cal_world.proofs.schedules.taken_were_sent.Goals as goal

pub returns-clause-safe : goal.returns-clause-safe
returns-clause-safe c = λ table events ok is n le k.
    taken_first table (take n events) (holds c.permitted_is_safe.ensures c.action_is_one_more.ensures c.look_is_one_more.ensures table events ok is n le) k

pub returns-clause-legal : goal.returns-clause-legal
returns-clause-legal c = of_legal TakenWereSent c.legal_lists_are_safe.ensures (returns-clause-safe c)
