use Rattle.cal_guard.proofs.Common.{◌≡◌, [], ◌++◌, refl, sym, subst, arith, false, true, Input, Setting, Begun, setting, setting_at, MayEndWith, IsFirstWrong, IsInside, next_setting, AreTwins}
use Rattle.cal_guard.proofs.Taking.{whole, whole_back}
use Rattle.cal_guard.proofs.Twins.{some_looks, twin_inside, twin_state, twin_back, copy_is_spare}
use Rattle.cal_guard.proofs.spare.step_both.Goals as goal

pub follow-requires-clause-follow : goal.follow-requires-clause-follow
follow-requires-clause-follow c =
    let one = c.begin-in-Ok.ensures.made in
    let other = c.begin.ensures.made in
    λ i a at. (let may = c.in-Ok.ensures.follow refl i a at in let few = may.1 in (may.0, omega (arith, few, one, other)))

pub follow-requires-clause-ready : goal.follow-requires-clause-ready
follow-requires-clause-ready c = c.begin-in-Ok.ensures.ready c.args.config.now c.requires.ready

-- both were given the same looks and actions
after : (c : goal.After-twins_are_spare) → AreTwins c.follow.new.self c.take_each.new.self
after c =
    let looks = some_looks c.args.looks in
    let input : Input = record { now = 0; bandwidth = 0; seen = looks.0; rooms = [] } in
    let was = c.requires.spare.twins in
    let next : Setting = next_setting was.setting was.acts input in
    let one = c.follow.ensures.made in
    let other = c.in-Ok.ensures.made refl in
    let first = c.begin-in-Ok.ensures.made in
    let second = c.begin.ensures.made in
    record {
      setting = next;
      acts = [] ++ c.args.chosen.now;
      one = c.follow.ensures.after next [] (c.begin-in-Ok.ensures.after was.setting was.acts input looks.1 was.one);
      other = c.in-Ok.ensures.after refl next [] (c.begin.ensures.after was.setting was.acts input looks.1 was.other);
      made = omega (arith, one, other, first, second);
    }

pub returns-in-Ok-clause-exact : goal.returns-in-Ok-clause-exact
returns-in-Ok-clause-exact c = λ h input by permitted is.
    let s : Setting = setting c.args.config.now h input in
    let begun : Begun = record { history = h; seen = input.seen } in
    let P : Setting → Type 0 = λ t. IsInside c.begin.new.self t [] in
    let inside = subst P by.same (c.begin.ensures.inside c.args.config.now h input by.seen permitted (twin_state c.args.passing.now c.args.spare.now c.requires.spare.twins h is)) in
    let M : Setting → Type 0 = λ t. MayEndWith t [] c.args.chosen.now in
    (λ yes. whole s c.args.chosen.now (subst M (sym by.same) ((c.in-Ok.ensures.exact begun [] inside).0 refl)), λ all. refl)

pub returns-in-Ok-clause-inside : goal.returns-in-Ok-clause-inside
returns-in-Ok-clause-inside c = λ ok h input by permitted is.
    let s : Setting = setting c.args.config.now h input in
    let begun : Begun = record { history = h; seen = input.seen } in
    let P : Setting → Type 0 = λ t. IsInside c.begin.new.self t [] in
    let inside = subst P by.same (c.begin.ensures.inside c.args.config.now h input by.seen permitted (twin_state c.args.passing.now c.args.spare.now c.requires.spare.twins h is)) in
    let N : Setting → Type 0 = λ t. IsInside c.follow.new.self t c.args.chosen.now in
    let there = c.in-Ok.ensures.inside refl begun [] inside in
    let at : Setting = setting_at c.args.config.now c.args.terms.now begun in
    subst N (sym by.same) (twin_inside c.take_each.new.self c.follow.new.self (twin_back c.follow.new.self c.take_each.new.self (after c)) at c.args.chosen.now there)

pub returns-in-Ok-clause-spare : goal.returns-in-Ok-clause-spare
returns-in-Ok-clause-spare c = c.twins_are_spare.ensures (after c) c.follow.ensures.ready c.in-Ok.ensures.ready

pub returns-in-Err-clause-exact : goal.returns-in-Err-clause-exact
returns-in-Err-clause-exact c = λ h input by permitted is.
    let s : Setting = setting c.args.config.now h input in
    let begun : Begun = record { history = h; seen = input.seen } in
    let P : Setting → Type 0 = λ t. IsInside c.begin.new.self t [] in
    let inside = subst P by.same (c.begin.ensures.inside c.args.config.now h input by.seen permitted (twin_state c.args.passing.now c.args.spare.now c.requires.spare.twins h is)) in
    let M : Setting → Type 0 = λ t. MayEndWith t [] c.args.chosen.now in
    (λ yes. let no : false ≡ true = yes in cc, λ all. (c.in-Err.ensures.exact begun [] inside).1 (subst M by.same (whole_back s c.args.chosen.now all)))

pub returns-in-Err-clause-first : goal.returns-in-Err-clause-first
returns-in-Err-clause-first c = λ h input by permitted is.
    let begun : Begun = record { history = h; seen = input.seen } in
    let P : Setting → Type 0 = λ t. IsInside c.begin.new.self t [] in
    let inside = subst P by.same (c.begin.ensures.inside c.args.config.now h input by.seen permitted (twin_state c.args.passing.now c.args.spare.now c.requires.spare.twins h is)) in
    let F : Setting → Type 0 = λ t. IsFirstWrong t [] c.args.chosen.now c.in-Err.refused in
    subst F (sym by.same) (c.in-Err.ensures.first begun [] inside)

pub returns-in-Err-clause-spare : goal.returns-in-Err-clause-spare
returns-in-Err-clause-spare c = copy_is_spare c.args.passing.now c.args.spare.now c.put_back.new.spare c.requires.spare.twins c.put_back.ensures
