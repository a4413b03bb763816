use Rattle.cal_world.proofs.ScheduleLemmas.Reading.{holds_busy, safe_on_reads}
use Rattle.cal_world.proofs.schedules.passes_on_reads_are_safe.Goals as goal

pub returns : goal.returns
returns c = λ table events ok is busy entry pass actions.
    let both = holds_busy c.permitted_is_safe.ensures c.action_is_one_more.ensures c.look_is_one_more.ensures table events ok is busy in
    safe_on_reads table events entry both.0 both.1 pass actions
