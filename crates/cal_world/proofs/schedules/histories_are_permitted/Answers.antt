use Rattle.cal_world.proofs.ScheduleLemmas.Invariant.{holds}
use Rattle.cal_world.proofs.schedules.histories_are_permitted.Goals as goal

pub returns : goal.returns
returns c = λ table events ok is n le.
    (holds c.permitted_is_safe.ensures c.action_is_one_more.ensures c.look_is_one_more.ensures table events ok is n le).permitted
