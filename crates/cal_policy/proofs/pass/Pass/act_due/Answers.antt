-- A task that does not wait or may not act gets nothing; another gets what is chosen for it.
use Rattle.cal_policy.proofs.Common.{◌≡◌, ◌&&◌, Bool, true, false, cond, nat_lt, List, [], None, refl, ap, sym, ◌∙◌, arith, nat_tests, is_some, Action, has_acted, may_act, pressing, surplus, waits, choice_for, setting_in, grant_of, may_book, thread_choice, so_far}
use Rattle.cal_policy.proofs.AssuredLemmas.Keeping.{middle_fails, second_fails}
use Rattle.cal_policy.proofs.PassLemmas.Branches.{when_true, when_false}
use Rattle.cal_policy.proofs.pass.Pass.act_due.Goals as goal

first_fails : (a b r : Bool) → a ≡ false → false ≡ ((a && b) && r)
first_fails true b r e = cc
first_fails false b r e = refl

all_hold : (a b r : Bool) → a ≡ true → b ≡ true → r ≡ true → true ≡ ((a && b) && r)
all_hold true true true e f g = refl
all_hold true true false e f g = cc
all_hold true false r e f g = cc
all_hold false b r e f g = cc

-- one that does not wait may not act, whatever else
waits_fails : (w m : Bool) → false ≡ w → false ≡ (w && m)
waits_fails true m e = cc
waits_fails false m e = refl

both_hold : (w m : Bool) → true ≡ w → m ≡ true → true ≡ (w && m)
both_hold true true e f = refl
both_hold true false e f = cc
both_hold false m e f = cc

nothing_either : (b : Bool) (none : List Action) → none ≡ cond b none none
nothing_either true none = refl
nothing_either false none = refl

pub returns-then-not-may_book-clause-due : goal.returns-then-not-may_book-clause-due
returns-then-not-may_book-clause-due c = λ h acts st now.
    let at = setting_in c.args.self.now h in
    let x = so_far at acts in
    let task = c.args.task in
    when_false (waits at x task && may_act at acts task) _ _
    (waits_fails (waits at x task) (may_act at acts task)
    (middle_fails (nat_lt (surplus at x task) (pressing at x task)) (may_book at x task) (is_some (thread_choice at x task)) (sym (c.if-not-may_book.ensures h acts st))))

pub returns-then-not-may_act-clause-due : goal.returns-then-not-may_act-clause-due
returns-then-not-may_act-clause-due c = λ h acts st now.
    let at = setting_in c.args.self.now h in
    let x = so_far at acts in
    let task = c.args.task in
    when_false (waits at x task && may_act at acts task) _ _
    (second_fails (waits at x task) (may_act at acts task) (sym (c.if-not-may_act.ensures h acts st now)))

pub returns-then-unhelped-eq0-clause-due : goal.returns-then-unhelped-eq0-clause-due
returns-then-unhelped-eq0-clause-due c = λ h acts st now.
    let at = setting_in c.args.self.now h in
    let x = so_far at acts in
    let task = c.args.task in
    let none : nat_lt 0 c.unhelped-unhelped.result ≡ false = grind (arith, nat_tests, c.if-unhelped-eq0.true) in
    when_false (waits at x task && may_act at acts task) _ _
    (waits_fails (waits at x task) (may_act at acts task)
    (first_fails (nat_lt (surplus at x task) (pressing at x task)) (may_book at x task) (is_some (thread_choice at x task)) (sym (c.unhelped-unhelped.ensures.some h acts st) ∙ none)))

pub returns-clause-due : goal.returns-clause-due
returns-clause-due c = λ h acts st now.
    let at = setting_in c.args.self.now h in
    let x = so_far at acts in
    let task = c.args.task in
    let chosen = sym c.in-Some.is ∙ c.choose_thread.ensures.choice h acts st in
    let some : nat_lt 0 c.unhelped-unhelped.result ≡ true = grind (arith, nat_tests, c.if-unhelped-eq0.false) in
    let acted = c.has_acted-acted.ensures ∙ ap (λ l. has_acted at.table l task) now in
    c.chosen.ensures.chosen h
    ∙ ap (λ thread. grant_of at task thread c.choose_for-core.result) chosen
    ∙ ap (grant_of at task (thread_choice at x task)) (c.choose_for-core.ensures.choice h acts st (c.unhelped-unhelped.ensures.count h acts st) acted)
    ∙ when_true (waits at x task && may_act at acts task) _ _
    (both_hold (waits at x task) (may_act at acts task)
    (all_hold (nat_lt (surplus at x task) (pressing at x task)) (may_book at x task) (is_some (thread_choice at x task))
    (sym (c.unhelped-unhelped.ensures.some h acts st) ∙ some) (sym (c.if-not-may_book.ensures h acts st)) (sym (ap is_some chosen)))
    (sym (c.if-not-may_act.ensures h acts st now)))

pub returns-in_default-clause-due : goal.returns-in_default-clause-due
returns-in_default-clause-due c = λ h acts st now.
    let at = setting_in c.args.self.now h in
    let x = so_far at acts in
    let task = c.args.task in
    let none : None ≡ thread_choice at x task = sym c.in_default.is ∙ c.choose_thread.ensures.choice h acts st in
    let may = waits at x task && may_act at acts task in
    nothing_either may [] ∙ ap (λ thread. cond may (grant_of at task thread (choice_for at acts task)) []) none
