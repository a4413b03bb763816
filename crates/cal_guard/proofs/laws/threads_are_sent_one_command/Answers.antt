use Rattle.cal_guard.proofs.Sending.{at_most_one}
use Rattle.cal_guard.proofs.laws.threads_are_sent_one_command.Goals as goal

pub returns : goal.returns
returns c = at_most_one c.permitted_is_safe.ensures c.last_thread_is_placed.ensures
