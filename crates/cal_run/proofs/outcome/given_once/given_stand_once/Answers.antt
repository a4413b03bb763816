use Rattle.cal_machine.specs.TableTasks.{threads_of_table}
use Rattle.cal_run.proofs.OutcomeLemmas.GivenOnce.{arrived_once, never_arrived}
use Rattle.cal_run.proofs.outcome.given_once.given_stand_once.Goals as goal

pub returns : goal.returns
returns c = λ table arrivals outcome fits one_each made account. record {
  given = λ id is. c.once_is_in_one_place.ensures outcome.journals outcome.left id account
      (arrived_once (threads_of_table table) arrivals fits c.turns_add_up.ensures outcome.journals one_each made id is);
  others = λ id other. c.never_is_nowhere.ensures outcome.journals outcome.left id account
      (never_arrived (threads_of_table table) arrivals fits c.turns_add_up.ensures outcome.journals one_each made id other);
}
