use Rattle.std.proofs.Common.{None}
use Rattle.cal_policy.proofs.ListLemmas.OneMore.{get_or_same}
use Rattle.cal_policy.proofs.board.debts.Debts.new.Goals as goal

pub returns : goal.returns
returns c = record { owed = λ k lt. rw c.nothing_owed.ensures (get_or_same 128 k None) }
