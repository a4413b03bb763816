use Rattle.cal_world.proofs.ScheduleLemmas.Reading.{holds_busy, allowed_on_reads}
use Rattle.cal_world.proofs.schedules.passes_on_reads_are_allowed_by.Goals as goal

pub returns : goal.returns
returns c = λ policy table events ok is busy entry pass actions.
    let safe = c.legal_lists_are_safe_by.ensures policy table events ok is in
    let both = holds_busy c.permitted_is_safe.ensures c.action_is_one_more.ensures c.look_is_one_more.ensures table events ok safe busy in
    allowed_on_reads policy table events entry both.0 both.1 pass actions
