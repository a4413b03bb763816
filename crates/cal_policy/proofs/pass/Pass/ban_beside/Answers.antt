use Rattle.cal_policy.proofs.Common.{◌<◌, arith, so_far, ban_due_by, setting_in}
use Rattle.cal_policy.proofs.PassLemmas.Pairs.{ban_parts}
use Rattle.cal_policy.proofs.pass.Pass.ban_beside.Goals as goal

pub returns-clause-due : goal.returns-clause-due
returns-clause-due c = λ h acts st.
    let s = setting_in c.args.self.now h in
    let lt : c.in-Some.thread < 128 = omega (arith, c.in-Some.ensures.thread) in
    ban_parts s (so_far s acts) c.args.core c.in-Some.thread c.sibling-beside.result _ _ (ban_due_by c.args.self.now.terms.now.policy s (so_far s acts) c.args.core)
    c.sibling-beside.ensures.value (st.looks.kept c.in-Some.thread lt) (c.ban_revocation.ensures.due h acts st) (c.in-Some.ensures.due h acts st)

pub returns-clause-names : goal.returns-clause-names
returns-clause-names c =
    let lt : c.sibling-beside.result < c.args.self.now.config.now.cores = omega arith in
    record { first = (lt, c.in-Some.ensures.thread); second = c.ban_revocation.ensures.names }
