use Rattle.cal_guard.proofs.Common.{◌≡◌, List, [], refl, sym, subst, ◌∙◌, Action, PassEntry, Input, setting, judged_input, Noted, ArePermitted, board_in, and_then, IsStateAfter, GoesBy}
use Rattle.cal_guard.proofs.Results.{if_err, none_chosen}
use Rattle.cal_guard.proofs.guard.Guard.pass.Goals as goal

pub returns-then-is_empty-clause-exact : goal.returns-then-is_empty-clause-exact
returns-then-is_empty-clause-exact c = λ h found permitted keeps is.
    let input : Input = judged_input c.args.config.now h c.args.now c.args.bandwidth found in
    let none : c.args.chosen.now ≡ [] = none_chosen c.args.chosen.now (sym c.is_empty.ensures ∙ c.if-is_empty.true) in
    let P : List Action → Type 0 = λ xs. ArePermitted (setting c.args.config.now h input) xs in
    (λ yes. subst P (sym none) (c.doing_nothing_is_permitted.ensures c.args.config.now h input permitted), λ all. refl)

pub returns-then-is_empty-clause-keeps : goal.returns-then-is_empty-clause-keeps
returns-then-is_empty-clause-keeps c = λ ok h found permitted keeps is.
    let input : Input = judged_input c.args.config.now h c.args.now c.args.bandwidth found in
    let none : c.args.chosen.now ≡ [] = none_chosen c.args.chosen.now (sym c.is_empty.ensures ∙ c.if-is_empty.true) in
    let P : List Action → Type 0 = λ xs. IsStateAfter (board_in c.step_idle.new.self) (and_then h input xs) in
    subst P (sym none) (c.step_idle.ensures.keeps h input (found, is, refl) permitted keeps)

pub returns-then-is_empty-clause-permitted : goal.returns-then-is_empty-clause-permitted
returns-then-is_empty-clause-permitted c = λ ok h found permitted keeps is.
    let input : Input = judged_input c.args.config.now h c.args.now c.args.bandwidth found in
    let none : c.args.chosen.now ≡ [] = none_chosen c.args.chosen.now (sym c.is_empty.ensures ∙ c.if-is_empty.true) in
    let P : List Action → Type 0 = λ xs. ArePermitted (setting c.args.config.now h input) xs in
    let entry : PassEntry = record { input = input; actions = c.args.chosen.now } in
    c.permitted_goes_on.ensures c.args.config.now h entry permitted (record { input = c.open_pass_fits.ensures c.args.config.now h c.args.now c.args.bandwidth found c.args.looks.now is (sym is.count ∙ c.requires.all); actions = subst P (sym none) (c.doing_nothing_is_permitted.ensures c.args.config.now h input permitted) })

pub returns-clause-exact : goal.returns-clause-exact
returns-clause-exact c = λ h found permitted keeps is.
    let input : Input = judged_input c.args.config.now h c.args.now c.args.bandwidth found in
    let by : GoesBy c.args.config.now c.of_noted-terms.result (Noted c.args.looks) h input =
    record { seen = (found, is, refl); same = c.of_noted-terms.ensures h found is } in
    c.step_on.ensures.exact h input by permitted keeps

pub returns-clause-keeps : goal.returns-clause-keeps
returns-clause-keeps c = λ ok h found permitted keeps is.
    let input : Input = judged_input c.args.config.now h c.args.now c.args.bandwidth found in
    let by : GoesBy c.args.config.now c.of_noted-terms.result (Noted c.args.looks) h input =
    record { seen = (found, is, refl); same = c.of_noted-terms.ensures h found is } in
    c.step_on.ensures.keeps ok h input by permitted keeps

pub returns-clause-permitted : goal.returns-clause-permitted
returns-clause-permitted c = λ ok h found permitted keeps is.
    let input : Input = judged_input c.args.config.now h c.args.now c.args.bandwidth found in
    let by : GoesBy c.args.config.now c.of_noted-terms.result (Noted c.args.looks) h input =
    record { seen = (found, is, refl); same = c.of_noted-terms.ensures h found is } in
    let entry : PassEntry = record { input = input; actions = c.args.chosen.now } in
    c.permitted_goes_on.ensures c.args.config.now h entry permitted (record { input = c.open_pass_fits.ensures c.args.config.now h c.args.now c.args.bandwidth found c.args.looks.now is (sym is.count ∙ c.requires.all); actions = (c.step_on.ensures.exact h input by permitted keeps).0 ok })

pub returns-clause-first : goal.returns-clause-first
returns-clause-first c = if_err c.step_on.result _ _
    (λ refused first h found permitted keeps is.
    let input : Input = judged_input c.args.config.now h c.args.now c.args.bandwidth found in
    let by : GoesBy c.args.config.now c.of_noted-terms.result (Noted c.args.looks) h input =
    record { seen = (found, is, refl); same = c.of_noted-terms.ensures h found is } in
    first h input by permitted keeps)
    c.step_on.ensures.first
