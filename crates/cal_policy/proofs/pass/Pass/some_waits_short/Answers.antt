use Rattle.cal_policy.proofs.Common.{nat_lt, sym, ap, ◌∙◌, setting_in, so_far}
use Rattle.cal_policy.proofs.AssuredLemmas.Lacking.{some_lacking}
use Rattle.cal_policy.proofs.pass.Pass.some_waits_short.Goals as goal

pub returns : goal.returns
returns c = λ h acts st.
    let s = setting_in c.args.self.now h in
    ap (nat_lt 0) (c.lacking.ensures h acts st) ∙ sym (some_lacking s (so_far s acts))
