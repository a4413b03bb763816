use Rattle.cal_world.specs.Schedules.{RevocationsLeaveGuarantees}
use Rattle.cal_world.proofs.ScheduleLemmas.Safety.{of_legal}
use Rattle.cal_world.proofs.schedules.revocations_in_events_leave_guarantees.Goals as goal

pub returns-clause-safe : goal.returns-clause-safe
returns-clause-safe c = λ table events ok is n le here inside core cause next.
    c.revocations_leave_guarantees.ensures here (c.points_are_permitted.ensures table events ok is n le here inside) core cause next

pub returns-clause-legal : goal.returns-clause-legal
returns-clause-legal c = of_legal RevocationsLeaveGuarantees c.legal_lists_are_safe.ensures (returns-clause-safe c)
