-- A core that the thread has is counted.
use Rattle.cal_policy.proofs.Common.{◌≡◌, ℕ, ◌<◌, Bool, true, ap, sym, ◌∙◌, arith, nat_tests, holder_of, is_with}
use Rattle.cal_policy.proofs.BoardLemmas.StateKept.{some_counted}
use Rattle.cal_policy.proofs.board.cores.has_no_core.Goals as goal
use Rattle.cal_policy.proofs.BoardLemmas.AsKept.{with_as_kept}

pub returns-then-is_with : goal.returns-then-is_with
returns-then-is_with c = λ x a.
    let p : ℕ → Bool = λ j. is_with c.args.k (holder_of x j) in
    let lt : c.loop-core.core < 128 = omega arith in
    let within : c.loop-core.core < c.args.config.now.cores = omega arith in
    let here : p c.loop-core.core ≡ true =
    sym (with_as_kept c.args.k (holder_of x c.loop-core.core)) ∙ ap (is_with c.args.k) (sym (a.holding.holders c.loop-core.core lt))
    ∙ sym c.is_with.ensures ∙ c.if-is_with.true in
    let some = some_counted p c.args.config.now.cores c.loop-core.core within here in
    grind (arith, nat_tests)
