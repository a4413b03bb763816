use Rattle.cal_machine.proofs.ThreadNumbers.{is_in_exactly}
use Rattle.cal_machine.proofs.laws.threads_are_of_their_task.Goals as goal

pub returns : goal.returns
returns c = is_in_exactly
