use Rattle.cal_measure.proofs.Common.{◌≡◌, ◌∙◌, ◌+◌, Bool, cond, false, sym, ap, rules, arith, is_some, ticks_of, clocked, worked_since}
use Rattle.cal_measure.proofs.Serving.{clocked_more, worked_push_none, worked_push_some}
use Rattle.cal_measure.proofs.services.worked_after.Goals as goal

pub returns-then-is_some : goal.returns-then-is_some
returns-then-is_some c = λ turns e. sym (ap clocked (worked_push_some turns c.args.turn (search rules)))

pub returns-then-turn : goal.returns-then-turn
returns-then-turn c = λ turns e.
    let t = c.args.turn in
    let before = worked_since turns in
    let no : is_some t.served ≡ false = search rules in
    c.saturating_add.ensures
    ∙ ap (λ n. clocked (n + c.ticks_of.result)) e
    ∙ clocked_more before c.ticks_of.result
    ∙ ap (λ n. clocked (before + n)) c.ticks_of.ensures
    ∙ sym (ap clocked (worked_push_none turns t no ∙ ap (λ (b : Bool). before + cond b (ticks_of t) 0) c.if-turn.true))

pub returns-else-turn : goal.returns-else-turn
returns-else-turn c = λ turns e.
    let t = c.args.turn in
    let before = worked_since turns in
    let no : is_some t.served ≡ false = search rules in
    let none : before + 0 ≡ before = omega arith in
    e ∙ sym (ap clocked (worked_push_none turns t no ∙ ap (λ (b : Bool). before + cond b (ticks_of t) 0) c.if-turn.false ∙ none))
