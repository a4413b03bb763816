use Rattle.cal_world.proofs.schedules.revocations_in_events_have_cause_by.Goals as goal

pub returns : goal.returns
returns c = λ policy table events ok is n le here inside core cause next.
    c.revocations_have_cause_by.ensures policy here (c.points_are_legal_by.ensures policy table events ok is n le here inside) core cause next
