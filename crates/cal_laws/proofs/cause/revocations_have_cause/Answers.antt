use Rattle.cal_laws.proofs.Common.{Revoke, setting_at, made_at}
use Rattle.cal_laws.proofs.CauseLemmas.Causes.{made_for_cause}
use Rattle.cal_laws.proofs.cause.revocations_have_cause.Goals as goal

pub returns : goal.returns
returns c = λ here p core cause e.
    made_for_cause c.chosen_is_of_least_class.ensures c.victim_has_most_misses.ensures c.action_is_one_more.ensures (setting_at here) (made_at here) core cause p.table
    (c.legal_is_sound.ensures here.table here.history p.table p.legal here.pass here.entry p.entry here.made (Revoke core cause) e).made
