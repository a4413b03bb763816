use Rattle.cal_laws.proofs.Common.{ℕ, List, arith, owner_of, Action, Revoke, Cause, Setting, ActionIsOneMore, LeavesGuarantee}
use Rattle.cal_laws.proofs.CapLemmas.Held.{loses_one}
use Rattle.cal_laws.proofs.PointLemmas.EachAction.{sound_at}
use Rattle.cal_laws.proofs.CauseLemmas.Revoked.{IsRevocable, takes_held, revocable}
use Rattle.cal_laws.proofs.limits.revocations_leave_guarantees.Goals as goal

leaves : ActionIsOneMore → (s : Setting) (x : List Action) (core : ℕ) (cause : Cause) → IsRevocable s x core → LeavesGuarantee s.table x core cause
leaves more s x core cause r = record {
  loser = r.loser;
  held = r.held;
  over = r.over;
  after = omega (arith, r.over, loses_one more s.table x core cause (owner_of s.table r.loser.thread));
}

pub returns : goal.returns
returns c = λ here is core cause e.
    let more = c.action_is_one_more.ensures in
    let sound = sound_at c.legal_is_sound.ensures here is (Revoke core cause) e in
    leaves more _ _ core cause (revocable more c.chosen_is_of_least_class.ensures c.victim_has_most_misses.ensures _ _ core cause is.table sound.made (takes_held _ _ core cause sound.fits))
