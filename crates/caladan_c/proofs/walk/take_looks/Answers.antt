use Rattle.caladan_c.proofs.Common.{Result, Ok, Err, ℕ, ◌+◌, [], List, ap, sym, subst, ◌∙◌, map_more, IsOpenAt, FoundLook, PassEntry, IsStateAfter, IsInput, found_of, input_of_found}
use Rattle.std.specs.Prelude.{IfErr}
use Rattle.caladan_c.proofs.Walked.{unfit_is_no_input}
use Rattle.caladan_c.proofs.walk.take_looks.Goals as goal

-- what is so anyway is so of an error
if_err : {T E Q : Type 0} (r : Result T E) → Q → IfErr r (λ (why : E). Q)
if_err (Ok value) q = tt
if_err (Err why) q = q

pub loop-one-init : goal.loop-one-init
loop-one-init c = record {
  count = (c.begin.ensures c.args.on.config.now []).count;
  taken = λ h quiet agrees. c.begin.ensures c.args.on.config.now h;
}

pub loop-one-preserved : goal.loop-one-preserved
loop-one-preserved c = record {
  count = c.in_ok-take_next.ensures.count ∙ ap (λ k. k + 1) c.loop-one.invariant.count;
  taken = λ h quiet agrees.
      let At : List FoundLook → Type 0 = λ xs. IsOpenAt c.args.on.config.now h xs c.take_next.new.came in
      subst At (sym (map_more found_of c.args.looks.now c.loop-one.one-index _ c.loop-one-test.true))
      (c.in_ok-take_next.ensures.taken h _ quiet agrees (c.loop-one.invariant.taken h quiet agrees));
}

pub returns-in_err-take_next-clause-unfit : goal.returns-in_err-take_next-clause-unfit
returns-in_err-take_next-clause-unfit c =
    let none : (h : List PassEntry) (now bandwidth : ℕ) → IsStateAfter c.args.on.board.now h → IsInput c.args.on.config.now h (input_of_found c.args.on.config.now h now bandwidth c.args.looks.now) → ⊥ = λ h now bandwidth agrees input.
    unfit_is_no_input c.args.on.config.now h now bandwidth c.args.looks.now c.loop-one.one-index _ _ c.loop-one-test.true
    (rw c.loop-one.invariant.count at (c.in_err-take_next.ensures.misfit h agrees)) input in
    if_err c.from_residual.result none
