use Rattle.std.proofs.Common.{rules, ◌≡◌, ℕ, ◌≤◌, Err, subst, arith}
use borrow.Author.Count.{below_more}
use Rattle.cal_explain.specs.Comes.{ComesOf}
use Rattle.cal_explain.specs.declared.recorded.Explained.{Explained}
use Rattle.cal_explain.specs.declared.recorded.Explained.TheVariants.{Done}
use Rattle.cal_explain.proofs.OnePassMore.{first_comes}
use Rattle.cal_explain.proofs.recorded.Explainer.explain_passes.Goals as goal

pub returns-in_err-came-clause-fault : goal.returns-in_err-came-clause-fault
returns-in_err-came-clause-fault g c =
    let same : c.from_residual.result ≡ Err c.in_err-came.field-0.0 = search rules in
    let i = c.loop-pass.invariant in
    rw same (first_comes c.args.self.now.config.now c.args.self.now.history.now c.args.first c.loop-pass.pass i.from i.each c.in_err-came.ensures.fault)

pub loop-pass-preserved : goal.loop-pass-preserved
loop-pass-preserved g c =
    let table = c.args.self.now.config.now in
    let history = c.args.self.now.history.now in
    let first = c.args.first in
    let n = c.loop-pass.pass in
    let i = c.loop-pass.invariant in
    let Came : Explained → Type 0 = λ came. ComesOf table history n came in
    let here : ComesOf table history n Done = subst Came c.in-Done.is c.in_ok-came.ensures.came in
    let P : ℕ → Type 0 = λ k. first ≤ k → ComesOf table history k Done in record {
      from = omega (arith, i.from);
      most = λ _. omega (arith, c.loop-pass-test.true);
      reached = c.reached_after-state.ensures;
      each = λ p from lt. below_more P n (λ k low above. i.each k above low) (λ _. here) p lt from;
      untouched = λ e. absurd (omega (arith, i.from, e));
    }

pub returns-in_err-came-2-clause-fault : goal.returns-in_err-came-2-clause-fault
returns-in_err-came-2-clause-fault g c =
    let same : c.from_residual-in_err-came-2.result ≡ Err c.in_err-came-2.field-0.0 = search rules in
    let i = c.loop-pass.invariant in
    rw same (first_comes c.args.self.now.config.now c.args.self.now.history.now c.args.first c.loop-pass.pass i.from i.each c.in_err-came-2.ensures.fault)
