use Rattle.cal_laws.proofs.OneEachLemmas.Sending.{at_most_one}
use Rattle.cal_laws.proofs.one_each.threads_are_sent_one_command.Goals as goal

pub returns : goal.returns
returns c = λ here is k. at_most_one c.legal_is_sound.ensures c.action_is_one_more.ensures c.last_thread_is_placed.ensures c.chosen_is_of_least_class.ensures
    c.chosen_has_waited_longest.ensures c.threads_are_of_their_task.ensures here is k
