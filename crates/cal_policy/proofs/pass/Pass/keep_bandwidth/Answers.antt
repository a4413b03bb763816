use Rattle.cal_policy.proofs.Common.{◌++◌, ap, ◌∙◌, setting_in}
use Rattle.cal_policy.proofs.pass.Pass.keep_bandwidth.Goals as goal

pub returns-clause-acts : goal.returns-clause-acts
returns-clause-acts c = λ h st.
    let s = setting_in c.args.self.now h in
    (c.make_both.ensures.out ∙ ap (λ l. c.args.out.now ++ l) (c.bandwidth_due-both.ensures.due h c.args.out.now st), c.make_both.ensures.stands s st)
