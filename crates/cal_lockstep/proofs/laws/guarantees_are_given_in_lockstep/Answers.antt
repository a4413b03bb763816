use Rattle.cal_lockstep.proofs.Given.{given_in_lockstep}
use Rattle.cal_lockstep.proofs.laws.guarantees_are_given_in_lockstep.Goals as goal

pub returns : goal.returns
returns c =
    given_in_lockstep c.headline_of_runs_by.ensures c.rings_have_room_in_lockstep.ensures c.left_cores_are_freed_in_lockstep.ensures c.guarantees_are_given_whole.ensures
