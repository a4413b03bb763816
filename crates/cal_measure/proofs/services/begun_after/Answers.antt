use Rattle.cal_measure.proofs.Common.{◌≡◌, ◌∙◌, Some, None, cond, false, sym, ap, rules, is_some, option_or}
use Rattle.cal_measure.proofs.Serving.{begun_push_some, begun_push_none}
use Rattle.cal_measure.proofs.services.begun_after.Goals as goal

pub returns-then-is_some : goal.returns-then-is_some
returns-then-is_some c = λ turns e. sym (begun_push_some turns c.args.turn (search rules))

pub returns-in-Some : goal.returns-in-Some
returns-in-Some c = λ turns e.
    let t = c.args.turn in
    let no : is_some t.served ≡ false = search rules in
    sym (begun_push_none turns t no ∙ ap (λ o. option_or o (cond t.at_work (Some t.stamp) None)) (sym e ∙ c.in-Some.is))

pub returns-in-None : goal.returns-in-None
returns-in-None c = λ turns e.
    let t = c.args.turn in
    let no : is_some t.served ≡ false = search rules in
    c.stamp_at_work.ensures ∙ sym (begun_push_none turns t no ∙ ap (λ o. option_or o (cond t.at_work (Some t.stamp) None)) (sym e ∙ c.in-None.is))
