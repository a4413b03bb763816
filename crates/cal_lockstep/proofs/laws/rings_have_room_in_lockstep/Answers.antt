use Rattle.cal_lockstep.proofs.Passes.{rings_have_room}
use Rattle.cal_lockstep.proofs.laws.rings_have_room_in_lockstep.Goals as goal

pub returns : goal.returns
returns c = rings_have_room c.headline_of_runs_by.ensures c.each_policy_is_permitted.ensures c.threads_are_sent_one_command.ensures
