use Rattle.cal_lockstep.proofs.Helped.{helped_in_lockstep}
use Rattle.cal_lockstep.proofs.laws.late_requests_are_helped_in_lockstep.Goals as goal

pub returns : goal.returns
returns c =
    helped_in_lockstep c.headline_of_runs_by.ensures c.rings_have_room_in_lockstep.ensures c.left_cores_are_freed_in_lockstep.ensures c.honest_waits_stay.ensures c.first_and_last_are_enough.ensures
