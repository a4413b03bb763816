use Rattle.cal_lockstep.proofs.Passes.{left_cores_are_freed}
use Rattle.cal_lockstep.proofs.laws.left_cores_are_freed_in_lockstep.Goals as goal

pub returns : goal.returns
returns c =
    left_cores_are_freed c.headline_of_runs_by.ensures c.each_policy_is_permitted.ensures c.threads_are_sent_one_command.ensures c.holders_are_of_their_last_run.ensures c.record_shows_taken.ensures
    c.commands_begin_alike.ensures
