use Rattle.cal_guard.proofs.Common.{◌≡◌, sym, ap, subst, ◌∙◌, IsStateAfter, Passing, GuardState}
use Rattle.cal_guard.proofs.guard.Guard.begin.Goals as goal

pub returns-clause-within : goal.returns-clause-within
returns-clause-within c = λ h permitted keeps.
    let same : c.deref_mut.result.now ≡ c.args.self.now.passing = c.deref_mut.ensures.value ∙ ap (λ (g : GuardState). g.passing) c.self.view_is in
    let P : Passing → Type 0 = λ p. IsStateAfter p.board h in
    record { inside = c.begin_both.ensures.inside c.args.config.now h c.args.input.now c.as_slice.ensures permitted (subst P (sym same) keeps) }
