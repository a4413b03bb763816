-- Each turn makes what its part makes there.
use Rattle.cal_policy.proofs.Common.{◌∙◌, setting_in}
use Rattle.cal_policy.proofs.ExplainLemmas.Assured.{shared_turns}
use Rattle.cal_policy.proofs.pass.Pass.due_by.Goals as goal

pub returns-in-Free-clause-due : goal.returns-in-Free-clause-due
returns-in-Free-clause-due c = λ h acts st now keeps.
    rw c.in-Free.is (c.only.ensures.both ∙ c.free_due.ensures.due h acts st ∙ (shared_turns c.args.self.now.terms.now.policy (setting_in c.args.self.now h) acts c.in-Free.core).free)

pub returns-in-Unban-clause-due : goal.returns-in-Unban-clause-due
returns-in-Unban-clause-due c = λ h acts st now keeps.
    rw c.in-Unban.is (c.only-in-Unban.ensures.both ∙ c.unban_due.ensures.due h acts st ∙ (shared_turns c.args.self.now.terms.now.policy (setting_in c.args.self.now h) acts c.in-Unban.core).unban)

pub returns-in-Ban-clause-due : goal.returns-in-Ban-clause-due
returns-in-Ban-clause-due c = λ h acts st now keeps.
    rw c.in-Ban.is (c.ban_beside.ensures.due h acts st ∙ (shared_turns c.args.self.now.terms.now.policy (setting_in c.args.self.now h) acts c.in-Ban.core).ban)

pub returns-in-Bandwidth-clause-due : goal.returns-in-Bandwidth-clause-due
returns-in-Bandwidth-clause-due c = λ h acts st now keeps.
    rw c.in-Bandwidth.is (c.bandwidth_due.ensures.due h acts st ∙ (shared_turns c.args.self.now.terms.now.policy (setting_in c.args.self.now h) acts 0).bandwidth)
