use Rattle.cal_laws.proofs.Common.{ap, ◌∙◌, Grant, is_banned, IsGranted, setting_at, made_at, actions_at}
use Rattle.cal_laws.proofs.PointLemmas.PassKeeps.{chosen_unbanned}
use Rattle.cal_laws.proofs.PointLemmas.EachAction.{sound_at}
use Rattle.cal_laws.proofs.bans.no_banned_is_granted.Goals as goal

pub returns : goal.returns
returns c = λ here is core thread class e.
    let granted : IsGranted (setting_at here) (made_at here) core thread class = (sound_at c.legal_is_sound.ensures here is (Grant core thread class) e).made in
    ap (is_banned (actions_at here)) granted.core_chosen
    ∙ chosen_unbanned c.chosen_is_of_least_class.ensures (setting_at here) (made_at here) granted.task granted.choice granted.chosen.least granted.granted
