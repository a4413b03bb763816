-- A task that is not congested, or may not book one more core, gets nothing; another gets what is
-- chosen for it.
use Rattle.cal_policy.proofs.Common.{◌≡◌, None, ap, sym, ◌∙◌, so_far, grant_of, thread_choice, choice_of, is_congested, may_book, setting_in}
use Rattle.cal_policy.proofs.PassLemmas.Branches.{when_both, when_not_first, when_not_second}
use Rattle.cal_policy.proofs.pass.Pass.grant_due.Goals as goal

pub returns-then-not-is_congested-clause-due : goal.returns-then-not-is_congested-clause-due
returns-then-not-is_congested-clause-due c = λ h acts s. when_not_first _ _ _ _ (c.if-not-is_congested.ensures h acts s)

pub returns-then-not-may_book-clause-due : goal.returns-then-not-may_book-clause-due
returns-then-not-may_book-clause-due c = λ h acts s.
    when_not_second _ _ _ _ (c.if-not-may_book.ensures h acts s)

pub returns-clause-due : goal.returns-clause-due
returns-clause-due c = λ h acts s.
    let at = setting_in c.args.self.now h in
    let task = c.args.task in
    c.chosen.ensures.chosen h
    ∙ ap (λ thread. grant_of at task thread c.choose_core-core.result) (sym c.in-Some.is ∙ c.choose_thread.ensures.choice h acts s)
    ∙ ap (grant_of at task (thread_choice at (so_far at acts) task)) (c.choose_core-core.ensures.choice h acts s)
    ∙ when_both (is_congested at task) (may_book at (so_far at acts) task) _ _
    (c.if-not-is_congested.ensures h acts s) (c.if-not-may_book.ensures h acts s)

pub returns-in_default-clause-due : goal.returns-in_default-clause-due
returns-in_default-clause-due c = λ h acts s.
    let at = setting_in c.args.self.now h in
    let task = c.args.task in
    let none : None ≡ thread_choice at (so_far at acts) task = sym c.in_default.is ∙ c.choose_thread.ensures.choice h acts s in
    ap (λ thread. grant_of at task thread (choice_of at acts task)) none
    ∙ when_both (is_congested at task) (may_book at (so_far at acts) task) _ _
    (c.if-not-is_congested.ensures h acts s) (c.if-not-may_book.ensures h acts s)
