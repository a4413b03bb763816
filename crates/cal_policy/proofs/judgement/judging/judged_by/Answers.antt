-- What the board says of commands and holders is as good as what the actions say.
use Rattle.std.proofs.Common.{◌<◌, ◌^◌, ◌∙◌, true, false, refl, sym, arith}
use Rattle.cal_policy.proofs.HistoryLemmas.Acknowledged.{judged_by_tests, ahead_kept, not_ahead_kept}
use Rattle.cal_policy.proofs.judgement.judging.judged_by.Goals as goal

pub returns-then-board-k : goal.returns-then-board-k
returns-then-board-k c = λ x a.
    let rec = c.in-Whole.rec in
    let lt : rec.taken < 2 ^ 64 = omega arith in
    rw c.in-Whole.is (sym (judged_by_tests c.args.cores x c.args.k c.in-Whole.number rec true _
    (ahead_kept _ _ rec.taken lt (a.holding.sent c.args.k c.requires.thread) (omega arith)) refl))

pub returns-then-is_elsewhere : goal.returns-then-is_elsewhere
returns-then-is_elsewhere c = λ x a.
    let rec = c.in-Whole.rec in
    rw c.in-Whole.is (sym (judged_by_tests c.args.cores x c.args.k c.in-Whole.number rec false true
    (not_ahead_kept _ _ rec.taken (a.holding.sent c.args.k c.requires.thread) (omega arith))
    (sym (c.is_elsewhere.ensures x a.holding) ∙ c.if-is_elsewhere.true)))

pub returns-else-is_elsewhere : goal.returns-else-is_elsewhere
returns-else-is_elsewhere c = λ x a.
    let rec = c.in-Whole.rec in
    rw c.in-Whole.is (sym (judged_by_tests c.args.cores x c.args.k c.in-Whole.number rec false false
    (not_ahead_kept _ _ rec.taken (a.holding.sent c.args.k c.requires.thread) (omega arith))
    (sym (c.is_elsewhere.ensures x a.holding) ∙ c.if-is_elsewhere.false)))
