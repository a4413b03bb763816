use Rattle.cal_policy.proofs.Common.{◌<◌, ap, ◌∙◌, arith, so_far, cut_of, cut_at, setting_in}
use Rattle.cal_policy.specs.Pass.Coupled.{both_of}
use Rattle.cal_policy.proofs.pass.Pass.cut_victim.Goals as goal

pub returns-in-None-clause-cut : goal.returns-in-None-clause-cut
returns-in-None-clause-cut c = λ h acts st.
    let s = setting_in c.args.self.now h in
    ap both_of c.neither.ensures ∙ ap (cut_of s (so_far s acts)) (c.in-None.ensures.victim h acts st (c.cores_to_lose-highest.ensures.lose h acts st))

pub returns-in-Some-clause-cut : goal.returns-in-Some-clause-cut
returns-in-Some-clause-cut c = λ h acts st.
    let s = setting_in c.args.self.now h in
    let few : c.in-Some.victim.number < 16 = omega (arith, c.in-Some.ensures.task) in
    c.cut.ensures.cut h acts st
    ∙ ap (cut_at s (so_far s acts) c.in-Some.victim.number) (c.cores_to_lose-highest.ensures.lose h acts st c.in-Some.victim.number few)
    ∙ ap (cut_of s (so_far s acts)) (c.in-Some.ensures.victim h acts st (c.cores_to_lose-highest.ensures.lose h acts st))
