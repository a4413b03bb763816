use Rattle.cal_guard.proofs.Common.{◌≡◌, sym, ap, subst, ◌∙◌, Setting, setting, IsStateAfter, Stands_end, Passing, GuardState}
use Rattle.cal_guard.proofs.Results.{if_err}
use Rattle.cal_guard.proofs.guard.Guard.step_on.Goals as goal

pub returns-clause-exact : goal.returns-clause-exact
returns-clause-exact c = λ h input by permitted keeps.
    let same : c.deref_mut.result.now ≡ c.args.self.now.passing = c.deref_mut.ensures.value ∙ ap (λ (g : GuardState). g.passing) c.self.view_is in
    let P : Passing → Type 0 = λ p. IsStateAfter p.board h in
    c.step_both.ensures.exact h input by permitted (subst P (sym same) keeps)

pub returns-clause-keeps : goal.returns-clause-keeps
returns-clause-keeps c = λ ok h input by permitted keeps.
    let same : c.deref_mut.result.now ≡ c.args.self.now.passing = c.deref_mut.ensures.value ∙ ap (λ (g : GuardState). g.passing) c.self.view_is in
    let P : Passing → Type 0 = λ p. IsStateAfter p.board h in
    let inside = c.step_both.ensures.inside ok h input by permitted (subst P (sym same) keeps) in
    let s : Setting = setting c.args.config.now h input in
    let after = Stands_end s c.step_both.new.passing.board c.args.chosen.now inside.stands in
    after.0

pub returns-clause-first : goal.returns-clause-first
returns-clause-first c = if_err c.step_both.result _ _
    (λ refused first h input by permitted keeps.
    let same : c.deref_mut.result.now ≡ c.args.self.now.passing = c.deref_mut.ensures.value ∙ ap (λ (g : GuardState). g.passing) c.self.view_is in
    let P : Passing → Type 0 = λ p. IsStateAfter p.board h in
    first h input by permitted (subst P (sym same) keeps))
    c.step_both.ensures.first
