use Rattle.cal_guard.proofs.Common.{ℕ, List, arith, owner_of, Action, Revoke, Cause, Setting, so_far, ActionIsOneMore, LeavesGuarantee, loses_one, MayBeRevoked}
use Rattle.cal_guard.proofs.Steady.{permitted_at}
use Rattle.cal_guard.proofs.laws.revocations_leave_guarantees.Goals as goal

leaves : ActionIsOneMore → (s : Setting) (acts : List Action) (core : ℕ) (cause : Cause) → MayBeRevoked s acts core → LeavesGuarantee s.table (so_far s acts) core cause
leaves more s acts core cause r = record {
  loser = r.loser;
  held = r.held;
  over = r.over;
  after = omega (arith, r.over, loses_one more s.table (so_far s acts) core cause (owner_of s.table r.loser.thread));
}

pub returns : goal.returns
returns c = λ here is core cause e. leaves c.action_is_one_more.ensures _ _ core cause (permitted_at here is (Revoke core cause) e).may
