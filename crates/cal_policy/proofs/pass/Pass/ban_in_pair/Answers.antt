use Rattle.cal_policy.proofs.PassLemmas.Pairs.{ban_lower}
use Rattle.cal_policy.specs.Pass.AtHand.{setting_in}
use Rattle.cal_policy.proofs.pass.Pass.ban_in_pair.Goals as goal

pub returns-in-Some-clause-due : goal.returns-in-Some-clause-due
returns-in-Some-clause-due c = λ h acts st.
    let s = setting_in c.args.self.now h in
    rw c.in-Some.is (ban_lower c.args.self.now.terms.now.policy s acts c.args.pair c.in-Some.field-0 _ (rw c.in-Some.is at (c.ban_beside-lower.ensures.due h acts st)))
