use Rattle.cal_policy.proofs.Common.{◌<◌, ◌≤◌, sym, ◌∙◌, arith, append-nil, so_far, setting_in}
use Rattle.cal_policy.proofs.PassLemmas.Bandwidth.{over_limit, not_over_limit}
use Rattle.cal_policy.proofs.pass.Pass.bandwidth_due.Goals as goal

pub returns-then-self-bandwidth_limit-clause-due : goal.returns-then-self-bandwidth_limit-clause-due
returns-then-self-bandwidth_limit-clause-due c = λ h acts st.
    let s = setting_in c.args.self.now h in
    let over : s.table.bandwidth_limit < s.input.bandwidth = omega arith in
    c.cut_victim.ensures.cut h acts st ∙ sym (over_limit s (so_far s acts) over)

pub returns-else-self-bandwidth_limit-clause-due : goal.returns-else-self-bandwidth_limit-clause-due
returns-else-self-bandwidth_limit-clause-due c = λ h acts st.
    let s = setting_in c.args.self.now h in
    let under : s.input.bandwidth ≤ s.table.bandwidth_limit = omega arith in
    append-nil _ ∙ c.first_rise.ensures.rise h acts st ∙ sym (not_over_limit s (so_far s acts) under)
