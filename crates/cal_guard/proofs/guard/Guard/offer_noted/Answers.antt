use Rattle.cal_guard.proofs.Common.{◌≡◌, ◌↔◌, ◌++◌, sym, ap, subst, ◌∙◌, IsOk, Setting, Begun, setting_at, judged_looks, Passing, MayEndWith, IsFirstWrong, IsInside, GuardState}
use Rattle.cal_policy.specs.declared.pass.terms.Terms.{Terms}
use Rattle.cal_guard.proofs.Results.{if_err}
use Rattle.cal_guard.proofs.guard.Guard.offer_noted.Goals as goal

pub returns-clause-exact : goal.returns-clause-exact
returns-clause-exact c = λ h found acts is within.
    let same : c.deref_mut.result.now ≡ c.args.self.now.passing = c.deref_mut.ensures.value ∙ ap (λ (g : GuardState). g.passing) c.self.view_is in
    let table = c.args.config.now in
    let terms : Terms = c.of_noted-terms.result in
    let begun : Begun = record { history = h; seen = judged_looks table h found } in
    let by = c.of_noted-terms.ensures h found is in
    let P : Passing → Type 0 = λ p. IsInside p (setting_at table terms begun) acts in
    let T : Setting → Type 0 = λ t. IsInside c.args.self.now.passing t acts in
    let inside = subst P (sym same) (subst T by within.inside) in
    let Q : Setting → Type 0 = λ t. IsOk c.offer_both.result ↔ MayEndWith t acts c.args.actions.now in
    subst Q (sym by) (c.offer_both.ensures.exact begun acts inside)

pub returns-clause-taken : goal.returns-clause-taken
returns-clause-taken c = λ ok h found acts is within.
    let same : c.deref_mut.result.now ≡ c.args.self.now.passing = c.deref_mut.ensures.value ∙ ap (λ (g : GuardState). g.passing) c.self.view_is in
    let table = c.args.config.now in
    let terms : Terms = c.of_noted-terms.result in
    let begun : Begun = record { history = h; seen = judged_looks table h found } in
    let by = c.of_noted-terms.ensures h found is in
    let P : Passing → Type 0 = λ p. IsInside p (setting_at table terms begun) acts in
    let T : Setting → Type 0 = λ t. IsInside c.args.self.now.passing t acts in
    let inside = subst P (sym same) (subst T by within.inside) in
    let Q : Setting → Type 0 = λ t. IsInside c.offer_both.new.passing t (acts ++ c.args.actions.now) in
    record { inside = subst Q (sym by) (c.offer_both.ensures.inside ok begun acts inside) }

pub returns-clause-first : goal.returns-clause-first
returns-clause-first c = if_err c.offer_both.result _ _
    (λ refused first h found acts is within.
    let same : c.deref_mut.result.now ≡ c.args.self.now.passing = c.deref_mut.ensures.value ∙ ap (λ (g : GuardState). g.passing) c.self.view_is in
    let table = c.args.config.now in
    let terms : Terms = c.of_noted-terms.result in
    let begun : Begun = record { history = h; seen = judged_looks table h found } in
    let by = c.of_noted-terms.ensures h found is in
    let P : Passing → Type 0 = λ p. IsInside p (setting_at table terms begun) acts in
    let T : Setting → Type 0 = λ t. IsInside c.args.self.now.passing t acts in
    let inside = subst P (sym same) (subst T by within.inside) in
    let Q : Setting → Type 0 = λ t. IsFirstWrong t acts c.args.actions.now refused in
    subst Q (sym by) (first begun acts inside))
    c.offer_both.ensures.first
