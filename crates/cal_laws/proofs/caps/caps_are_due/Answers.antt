use Rattle.cal_laws.proofs.Common.{Cap, setting_at, made_at}
use Rattle.cal_laws.proofs.CapLemmas.CapsDue.{cap_due}
use Rattle.cal_laws.proofs.PointLemmas.EachAction.{sound_at}
use Rattle.cal_laws.proofs.caps.caps_are_due.Goals as goal

pub returns : goal.returns
returns c = λ here is t cap e. cap_due c.victim_has_most_misses.ensures (setting_at here) (made_at here) t cap is.table (sound_at c.legal_is_sound.ensures here is (Cap t cap) e).made
