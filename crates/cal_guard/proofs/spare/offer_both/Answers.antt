use Rattle.cal_guard.proofs.Common.{◌++◌, refl, arith, Setting, setting_at, AreTwins}
use Rattle.cal_guard.proofs.Twins.{twin_inside, twin_back, copy_is_spare}
use Rattle.cal_guard.proofs.spare.offer_both.Goals as goal

pub follow-requires-clause-follow : goal.follow-requires-clause-follow
follow-requires-clause-follow c =
    let made = c.requires.spare.twins.made in
    λ i a at. (let may = c.in-Ok.ensures.follow refl i a at in let few = may.1 in (may.0, omega (arith, few, made)))

-- both were given the same actions
after : (c : goal.After-twins_are_spare) → AreTwins c.follow.new.self c.take_each.new.self
after c =
    let was = c.requires.spare.twins in
    let one = c.follow.ensures.made in
    let other = c.in-Ok.ensures.made refl in
    let made = was.made in
    record {
      setting = was.setting;
      acts = was.acts ++ c.args.actions.now;
      one = c.follow.ensures.after was.setting was.acts was.one;
      other = c.in-Ok.ensures.after refl was.setting was.acts was.other;
      made = omega (arith, one, other, made);
    }

pub returns-in-Ok-clause-exact : goal.returns-in-Ok-clause-exact
returns-in-Ok-clause-exact c = λ h acts is. c.in-Ok.ensures.exact h acts
    (twin_inside c.args.passing.now c.args.spare.now c.requires.spare.twins (setting_at c.args.config.now c.args.terms.now h) acts is)

pub returns-in-Ok-clause-inside : goal.returns-in-Ok-clause-inside
returns-in-Ok-clause-inside c = λ ok h acts is.
    let s : Setting = setting_at c.args.config.now c.args.terms.now h in
    let there = c.in-Ok.ensures.inside refl h acts (twin_inside c.args.passing.now c.args.spare.now c.requires.spare.twins s acts is) in
    twin_inside c.take_each.new.self c.follow.new.self (twin_back c.follow.new.self c.take_each.new.self (after c)) s (acts ++ c.args.actions.now) there

pub returns-in-Ok-clause-spare : goal.returns-in-Ok-clause-spare
returns-in-Ok-clause-spare c = c.twins_are_spare.ensures (after c) c.follow.ensures.ready c.in-Ok.ensures.ready

pub returns-in-Err-clause-exact : goal.returns-in-Err-clause-exact
returns-in-Err-clause-exact c = λ h acts is. c.in-Err.ensures.exact h acts
    (twin_inside c.args.passing.now c.args.spare.now c.requires.spare.twins (setting_at c.args.config.now c.args.terms.now h) acts is)

pub returns-in-Err-clause-first : goal.returns-in-Err-clause-first
returns-in-Err-clause-first c = λ h acts is. c.in-Err.ensures.first h acts
    (twin_inside c.args.passing.now c.args.spare.now c.requires.spare.twins (setting_at c.args.config.now c.args.terms.now h) acts is)

pub returns-in-Err-clause-spare : goal.returns-in-Err-clause-spare
returns-in-Err-clause-spare c = copy_is_spare c.args.passing.now c.args.spare.now c.put_back.new.spare c.requires.spare.twins c.put_back.ensures
