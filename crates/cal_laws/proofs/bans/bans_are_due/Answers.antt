use Rattle.cal_laws.proofs.Common.{Ban, IsBanned, setting_at, made_at}
use Rattle.cal_laws.proofs.BanLemmas.BanDue.{is_due}
use Rattle.cal_laws.proofs.PointLemmas.EachAction.{sound_at}
use Rattle.cal_laws.proofs.bans.bans_are_due.Goals as goal

pub returns : goal.returns
returns c = λ here is core thread started e.
    let made : IsBanned (setting_at here) (made_at here) core thread started = (sound_at c.legal_is_sound.ensures here is (Ban core thread started) e).made in
    record { by = made.by; beside = made.beside; request = made.start; due = is_due (setting_at here) (made_at here) made.by thread made.due }
