use Rattle.cal_engine.proofs.Common.{◌≡◌, List, length, sym, ap, subst, ◌∙◌, IsInput, PassEntry, input_of}
use Rattle.cal_policy.specs.Judgement.OpenInput.{judged_input}
use Rattle.cal_policy.specs.declared.history.action.Action.{Action}
use Rattle.cal_engine.proofs.Decided.{made_pass}
use Rattle.cal_engine.proofs.jobs.deciding.decider.Decider.decide.Goals as goal

pub input-requires : goal.input-requires
input-requires c = ap length c.as_slice-looks.ensures ∙ c.requires.looks

pub returns-clause-decided : goal.returns-clause-decided
returns-clause-decided c = λ h legal agrees given.
    let table = c.args.config.now in
    let pass = c.args.pass.now in
    let same : c.in_ok-input.input ≡ input_of table h pass =
    c.in_ok-input.ensures.judged h agrees ∙ ap (λ looks. judged_input table h pass.now pass.bandwidth looks) c.as_slice-looks.ensures in
    let fits : IsInput table h c.in_ok-input.input = subst (IsInput table h) (sym same) given in
    ap (λ (listed : List Action). let e : PassEntry = record { input = c.in_ok-input.input; actions = listed } in e) c.in_ok-actions.ensures
    ∙ made_pass c.args.self.now.book.policy table h pass c.in_ok-input.input c.step.new.out same (c.step.ensures.own h legal agrees fits).acts

pub returns-clause-agrees : goal.returns-clause-agrees
returns-clause-agrees c = λ h legal agrees given.
    let table = c.args.config.now in
    let pass = c.args.pass.now in
    let same : c.in_ok-input.input ≡ input_of table h pass =
    c.in_ok-input.ensures.judged h agrees ∙ ap (λ looks. judged_input table h pass.now pass.bandwidth looks) c.as_slice-looks.ensures in
    let fits : IsInput table h c.in_ok-input.input = subst (IsInput table h) (sym same) given in
    rw c.in_ok-actions.ensures ((c.step.ensures.own h legal agrees fits).agrees)
