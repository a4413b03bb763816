use Rattle.cal_policy.proofs.Common.{◌≡◌, ◌≢◌, ℕ, Some, eqb, false, not, ◌||◌, ◌&&◌, ap, ◌∙◌, arith, nat_tests, has}
use Rattle.cal_policy.proofs.BoardLemmas.BannedSet.{Banned_same, Banned_ban, Banned_unban}
use Rattle.cal_policy.proofs.HistoryLemmas.OneMore.{ban_push}
use Rattle.cal_policy.proofs.board.core_sets.note_banned.Goals as goal

pub returns-in-Ban-clause-banned : goal.returns-in-Ban-clause-banned
returns-in-Ban-clause-banned c = λ x s. rw c.in-Ban.is (Banned_ban c.args.banned.now _ x _ _ _ c.insert.ensures s)

pub returns-in-Unban-clause-banned : goal.returns-in-Unban-clause-banned
returns-in-Unban-clause-banned c = λ x s. rw c.in-Unban.is (Banned_unban c.args.banned.now _ x _ c.remove.ensures s)

pub returns-in-Free-clause-banned : goal.returns-in-Free-clause-banned
returns-in-Free-clause-banned c = λ x s. rw c.in-Free.is (Banned_same c.args.banned.now x _ (λ k. ban_push x _ k) s)

pub returns-in-Revoke-clause-banned : goal.returns-in-Revoke-clause-banned
returns-in-Revoke-clause-banned c = λ x s. rw c.in-Revoke.is (Banned_same c.args.banned.now x _ (λ k. ban_push x _ k) s)

pub returns-in-Cap-clause-banned : goal.returns-in-Cap-clause-banned
returns-in-Cap-clause-banned c = λ x s. rw c.in-Cap.is (Banned_same c.args.banned.now x _ (λ k. ban_push x _ k) s)

pub returns-in-Grant-clause-banned : goal.returns-in-Grant-clause-banned
returns-in-Grant-clause-banned c = λ x s. rw c.in-Grant.is (Banned_same c.args.banned.now x _ (λ k. ban_push x _ k) s)

-- an action that bans or unbans leaves each other core as it was
off : (c core : ℕ) → Some core ≢ Some c → eqb c core ≡ false
off c core e = grind (arith, nat_tests)

pub returns-in-Ban-clause-elsewhere : goal.returns-in-Ban-clause-elsewhere
returns-in-Ban-clause-elsewhere c = λ k e. c.insert.ensures k ∙ ap (λ b. b || has c.args.banned.now k) (off k c.in-Ban.core (rw c.in-Ban.is at e))

pub returns-in-Unban-clause-elsewhere : goal.returns-in-Unban-clause-elsewhere
returns-in-Unban-clause-elsewhere c = λ k e. c.remove.ensures k ∙ ap (λ b. not b && has c.args.banned.now k) (off k c.in-Unban.core (rw c.in-Unban.is at e))
