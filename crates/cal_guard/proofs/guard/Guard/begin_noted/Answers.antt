use Rattle.cal_guard.proofs.Common.{◌≡◌, refl, sym, ap, subst, ◌∙◌, IsStateAfter, Passing, GuardState, judged_input}
use Rattle.cal_guard.proofs.guard.Guard.begin_noted.Goals as goal

pub returns-clause-within : goal.returns-clause-within
returns-clause-within c = λ now bandwidth h found permitted keeps is.
    let same : c.deref_mut.result.now ≡ c.args.self.now.passing = c.deref_mut.ensures.value ∙ ap (λ (g : GuardState). g.passing) c.self.view_is in
    let P : Passing → Type 0 = λ p. IsStateAfter p.board h in
    record { inside = c.begin_both.ensures.inside c.args.config.now h (judged_input c.args.config.now h now bandwidth found) (found, is, refl) permitted (subst P (sym same) keeps) }
