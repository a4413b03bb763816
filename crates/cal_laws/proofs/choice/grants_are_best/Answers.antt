use Rattle.cal_laws.proofs.Common.{Grant, setting_at, made_at}
use Rattle.cal_laws.proofs.ChoiceLemmas.Chosen.{best_grant}
use Rattle.cal_laws.proofs.PointLemmas.EachAction.{sound_at}
use Rattle.cal_laws.proofs.choice.grants_are_best.Goals as goal

pub returns : goal.returns
returns c = λ here is core thread class e.
    best_grant c.threads_are_of_their_task.ensures c.chosen_is_of_least_class.ensures c.chosen_has_waited_longest.ensures (setting_at here) (made_at here) core thread class
    (sound_at c.legal_is_sound.ensures here is (Grant core thread class) e).made
