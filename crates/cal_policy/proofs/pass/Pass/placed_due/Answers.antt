use Rattle.cal_policy.proofs.Common.{◌≡◌, ◌<◌, Some, ap, sym, ◌∙◌, arith, act_in_place, placed_task, setting_in}
use Rattle.cal_policy.proofs.pass.Pass.placed_due.Goals as goal

pub returns-in-Some-clause-due : goal.returns-in-Some-clause-due
returns-in-Some-clause-due c = λ h acts st now is.
    let s = setting_in c.args.self.now h in
    let low : c.args.place < 16 = omega (arith, c.requires.place, c.requires.at_hand.accepted.tasks) in
    let there : Some c.in-Some.task ≡ placed_task s c.args.place = sym c.in-Some.is ∙ is.placed c.args.place low in
    c.act_due.ensures.due h acts st now ∙ ap (act_in_place s acts) there

pub returns-in-None-clause-due : goal.returns-in-None-clause-due
returns-in-None-clause-due c = λ h acts st now is.
    let s = setting_in c.args.self.now h in
    let low : c.args.place < 16 = omega (arith, c.requires.place, c.requires.at_hand.accepted.tasks) in
    ap (act_in_place s acts) (sym c.in-None.is ∙ is.placed c.args.place low)
