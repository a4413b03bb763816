-- The next action fits the state after those before it.
use Rattle.cal_policy.proofs.Common.{ℕ, ◌++◌, List, take, IsTrue, refl, sym, subst, ◌∙◌, Action, fits_state, Agrees}
use Rattle.cal_policy.proofs.ListLemmas.Each.{each_more, each_all, after_more}
use Rattle.cal_policy.proofs.judgement.orderly.step_fitting.Goals as goal

pub loop-action-preserved : goal.loop-action-preserved
loop-action-preserved c =
    let i = c.loop-action.invariant in
    let n = c.loop-action.action-index in
    let actions = c.args.actions.now in record {
      fits = λ x a.
          let P : ℕ → Action → Type 0 = λ j action. IsTrue (fits_state c.args.config.now (x ++ take j actions) action) in
          each_more P actions n _ (i.fits x a) (sym (c.is_fit.ensures.fits (x ++ take n actions) (i.agrees x a)) ∙ c.if-not-is_fit.false);
      agrees = λ x a.
          let P : List Action → Type 0 = λ l. Agrees c.step.new.board l in
          subst P (after_more x actions n _ c.loop-action-test.true) (c.step.ensures.agrees (x ++ take n actions) (i.agrees x a));
      ready = c.step.ensures.ready;
      keeping = c.step.ensures.keeping ∙ i.keeping;
    }

pub returns-clause-fits : goal.returns-clause-fits
returns-clause-fits c = λ x a.
    let P : ℕ → Action → Type 0 = λ j action. IsTrue (fits_state c.args.config.now (x ++ take j c.args.actions.now) action) in
    (λ _. each_all P c.args.actions.now c.loop-action.action-index c.loop-action-test.false (c.loop-action.invariant.fits x a), λ _. refl)
