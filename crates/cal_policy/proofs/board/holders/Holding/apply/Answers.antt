use Rattle.std.proofs.Common.{rules, arith, ◌∙◌}
use Rattle.cal_policy.proofs.BoardLemmas.Agreement.{Holding_free, Holding_same}
use Rattle.cal_policy.proofs.HistoryLemmas.OneMore.{last_placement_push, holder_push, sent_push}
use Rattle.cal_policy.proofs.board.holders.Holding.apply.Goals as goal

pub returns-in-Free-clause-agrees : goal.returns-in-Free-clause-agrees
returns-in-Free-clause-agrees c = λ x s. rw c.in-Free.is (Holding_free c.args.self.now x _ (search rules) (rw c.in-Free.is at c.requires.names) s)

pub returns-in-Unban-clause-agrees : goal.returns-in-Unban-clause-agrees
returns-in-Unban-clause-agrees c = λ x s. rw c.in-Unban.is (Holding_same c.args.self.now x _ (λ k. last_placement_push x _ k) (λ k. holder_push x _ k) (λ k. sent_push x _ k ∙ omega arith) s)

pub returns-in-Ban-clause-agrees : goal.returns-in-Ban-clause-agrees
returns-in-Ban-clause-agrees c = λ x s. rw c.in-Ban.is (Holding_same c.args.self.now x _ (λ k. last_placement_push x _ k) (λ k. holder_push x _ k) (λ k. sent_push x _ k ∙ omega arith) s)

pub returns-in-Cap-clause-agrees : goal.returns-in-Cap-clause-agrees
returns-in-Cap-clause-agrees c = λ x s. rw c.in-Cap.is (Holding_same c.args.self.now x _ (λ k. last_placement_push x _ k) (λ k. holder_push x _ k) (λ k. sent_push x _ k ∙ omega arith) s)
