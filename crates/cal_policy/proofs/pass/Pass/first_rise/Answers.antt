-- The first task that gives a rise is the least-numbered capped one.
use Rattle.cal_policy.proofs.Common.{◌≡◌, ◌<◌, cond, length, Some, None, true, ap, sym, ◌∙◌, arith, lowest_below, so_far, is_capped, rise_of, setting_in}
use Rattle.cal_policy.proofs.PassLemmas.Bandwidth.{lowest_none, lowest_found, rise_made, rise_missing}
use Rattle.cal_policy.proofs.pass.Pass.first_rise.Goals as goal

pub loop-t-preserved : goal.loop-t-preserved
loop-t-preserved c = λ h acts st.
    let s = setting_in c.args.self.now h in
    lowest_none (is_capped s (so_far s acts)) c.loop-t.t (c.loop-t.invariant h acts st)
    (rise_missing s (so_far s acts) _ c.loop-t.t (c.in_default.ensures.rise h acts st))

pub returns-in-Some-clause-rise : goal.returns-in-Some-clause-rise
returns-in-Some-clause-rise c = λ h acts st.
    let s = setting_in c.args.self.now h in
    let x = so_far s acts in
    let due = c.in-Some.ensures.rise h acts st in
    let capped : is_capped s x c.loop-t.t ≡ true = rise_made s x _ c.loop-t.t c.in-Some.action due in
    let lt : c.loop-t.t < length c.args.self.now.config.now.tasks = omega (arith, c.tasks-t-end.ensures.count) in
    due ∙ ap (λ b. rise_of s x (cond b (Some c.loop-t.t) None)) capped
    ∙ ap (rise_of s x) (sym (lowest_found (is_capped s x) c.loop-t.t (length c.args.self.now.config.now.tasks) lt (c.loop-t.invariant h acts st) capped))

pub returns-clause-rise : goal.returns-clause-rise
returns-clause-rise c = λ h acts st.
    let s = setting_in c.args.self.now h in
    let x = so_far s acts in
    let all : c.loop-t.t ≡ length c.args.self.now.config.now.tasks = omega (arith, c.tasks-t-end.ensures.count) in
    sym (ap (rise_of s x) (ap (lowest_below (is_capped s x)) (sym all) ∙ c.loop-t.invariant h acts st))
