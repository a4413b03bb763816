use Rattle.cal_guard.proofs.Common.{◌≡◌, [], sym, ap, subst, ◌∙◌, IsStateAfter, Passing, GuardState, Setting, setting, Stands_end}
use Rattle.cal_guard.proofs.guard.Guard.step_idle.Goals as goal

pub returns-clause-keeps : goal.returns-clause-keeps
returns-clause-keeps c = λ h input looks permitted keeps.
    let same : c.deref_mut.result.now ≡ c.args.self.now.passing = c.deref_mut.ensures.value ∙ ap (λ (g : GuardState). g.passing) c.self.view_is in
    let P : Passing → Type 0 = λ p. IsStateAfter p.board h in
    let s : Setting = setting c.args.config.now h input in
    let begun = c.begin_both.ensures.inside c.args.config.now h input looks permitted (subst P (sym same) keeps) in
    let after = Stands_end s c.begin_both.new.passing.board [] begun.stands in
    after.0
