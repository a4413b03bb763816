use Rattle.cal_policy.proofs.Common.{◌≡◌, ◌∙◌, sym, ap, Setting, Begun, setting, setting_at, looks_of, actions_of, pass_by, Terms, Policy}
use Rattle.cal_policy.proofs.PassLemmas.FromParts.{Stands_begin, decided}
use Rattle.cal_policy.proofs.pass.deciding.decide.Goals as goal

pub returns-clause-acts : goal.returns-clause-acts
returns-clause-acts c = λ h apart a k fit.
    let table = c.args.config.now in
    let terms : Terms = c.by-terms.result in
    let begun : Begun = record { history = h; seen = c.args.input.now.seen } in
    let at : Setting = setting_at table terms begun in
    let same : setting table h c.args.input.now ≡ at = c.of.ensures h ∙ ap (λ (t : Terms). setting_at table t begun) (sym c.by-terms.ensures) in
    let policy : terms.policy ≡ c.args.policy = ap (λ (t : Terms). t.policy) c.by-terms.ensures in
    let stands = Stands_begin at _ (c.begin_fit.ensures.agrees (actions_of h) a) c.begin_fit.ensures.fresh
    (rw c.as_slice.ensures at (c.begin_fit.ensures.keeping (looks_of h) k) fit) (c.begin_fit.ensures.before (looks_of h) k) in
    let made = c.make_by.ensures.acts begun apart stands in
    decided c.args.policy at (setting table h c.args.input.now) (sym same) _ _ (made.0 ∙ ap (λ (p : Policy). pass_by p at) policy, made.1)
