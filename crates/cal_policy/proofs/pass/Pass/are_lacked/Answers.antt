use Rattle.cal_policy.proofs.Common.{◌&&◌, nat_le, max, sym, ap, ◌∙◌, open_cores, lacking, setting_in, so_far}
use Rattle.cal_policy.proofs.AssuredLemmas.Lacking.{some_lacking, lacked_told}
use Rattle.cal_policy.proofs.pass.Pass.are_lacked.Goals as goal

pub returns : goal.returns
returns c = λ h acts st.
    let s = setting_in c.args.self.now h in
    let x = so_far s acts in
    lacked_told (open_cores s.table x) (lacking s x) _ _
    (c.max-enough.ensures ∙ ap (λ n. max n 1) (c.open_cores.ensures x st.agrees))
    (c.lacking_to.ensures.fewer h acts st) (c.lacking_to.ensures.all h acts st)
    ∙ ap (λ b. b && nat_le (open_cores s.table x) (lacking s x)) (sym (some_lacking s x))
