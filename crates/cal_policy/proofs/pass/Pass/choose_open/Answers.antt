use Rattle.cal_policy.proofs.Common.{refl, ap, sym, ◌∙◌, option_or, open_class, comes_before, setting_in, best_below, so_far}
use Rattle.cal_policy.proofs.AssuredLemmas.NoneToTake.{no_open_choice, none_owed}
use Rattle.cal_policy.proofs.pass.Pass.choose_open.Goals as goal

pub returns-then-none_is_open-clause-choice : goal.returns-then-none_is_open-clause-choice
returns-then-none_is_open-clause-choice c = λ h acts st.
    let p = c.requires.at_hand in
    sym (no_open_choice c.args.board.now (setting_in c.args.self.now h) acts c.args.task p.accepted.machine.most st p.ready (c.if-none_is_open.ensures refl))

pub returns-then-not-some_is_owed-clause-choice : goal.returns-then-not-some_is_owed-clause-choice
returns-then-not-some_is_owed-clause-choice c = λ h acts st.
    let p = c.requires.at_hand in
    c.choose_idle.ensures.choice h acts st
    ∙ none_owed c.args.board.now (setting_in c.args.self.now h) acts c.args.task p.accepted.machine.most st p.ready (c.if-not-some_is_owed.ensures refl)

pub returns-in-Some-clause-choice : goal.returns-in-Some-clause-choice
returns-in-Some-clause-choice c = λ h acts st.
    let s = setting_in c.args.self.now h in
    ap (λ o. option_or o (best_below comes_before (open_class s (so_far s acts) c.args.task) s.table.cores))
    (c.in-Some.ensures.choice h acts st)

pub returns-in-None-clause-choice : goal.returns-in-None-clause-choice
returns-in-None-clause-choice c = λ h acts st.
    let s = setting_in c.args.self.now h in
    c.choose_to_take-in-None.ensures.choice h acts st
    ∙ ap (λ o. option_or o (best_below comes_before (open_class s (so_far s acts) c.args.task) s.table.cores)) (c.in-None.ensures.choice h acts st)
