use Rattle.cal_policy.proofs.Common.{◌≡◌, ◌∙◌, sym, ap, Setting, Begun, setting, setting_at, looks_of, actions_of, judged_input, judged_looks, pass_by, Terms, Policy}
use Rattle.cal_policy.proofs.PassLemmas.FromParts.{Stands_begin, decided}
use Rattle.cal_policy.proofs.pass.deciding.decide_noted.Goals as goal

pub returns-clause-acts : goal.returns-clause-acts
returns-clause-acts c = λ h found apart a k is.
    let table = c.args.config.now in
    let terms : Terms = c.by-terms.result in
    let begun : Begun = record { history = h; seen = judged_looks table h found } in
    let at : Setting = setting_at table terms begun in
    let given : Setting = setting table h (judged_input table h c.args.now c.args.bandwidth found) in
    let same : given ≡ at = c.of_noted.ensures h found is ∙ ap (λ (t : Terms). setting_at table t begun) (sym c.by-terms.ensures) in
    let policy : terms.policy ≡ c.args.policy = ap (λ (t : Terms). t.policy) c.by-terms.ensures in
    let stands = Stands_begin at _ (c.begin_noted.ensures.agrees (actions_of h) a) c.begin_noted.ensures.fresh
    (c.begin_noted.ensures.keeping table h found k is) (c.begin_noted.ensures.before (looks_of h) k) in
    let made = c.make_by.ensures.acts begun apart stands in
    decided c.args.policy at given (sym same) _ _ (made.0 ∙ ap (λ (p : Policy). pass_by p at) policy, made.1)
