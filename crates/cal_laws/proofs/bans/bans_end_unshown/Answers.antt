use Rattle.cal_laws.proofs.Common.{◌≡◌, ℕ, ◌+◌, true, eqb, and_from, eq-eqb, both_ways, sibling_of, Unban, BannedFor, Setting, kept_now, still_shows, IsShown}
use Rattle.cal_laws.proofs.PointLemmas.EachAction.{sound_at}
use Rattle.cal_laws.proofs.bans.bans_end_unshown.Goals as goal

shown : (s : Setting) (core : ℕ) (ban : BannedFor) → IsShown s core ban → still_shows (kept_now s ban.thread) (sibling_of core) ban.started ≡ true
shown s core ban h =
    and_from (eqb (kept_now s ban.thread).running (sibling_of core + 1)) (eqb (kept_now s ban.thread).started ban.started) (eq-eqb _ _ h.running) (eq-eqb _ _ h.request)

pub returns : goal.returns
returns c = λ here is core e.
    let made = (sound_at c.legal_is_sound.ensures here is (Unban core) e).made in
    let ended = made.1 in
    record { own = ended.core; ban = made.0; stood = ended.banned; not_shown = λ h. both_ways _ ended.over (shown _ core made.0 h) }
