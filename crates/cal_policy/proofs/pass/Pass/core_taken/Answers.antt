use Rattle.cal_policy.proofs.Common.{ap, ◌∙◌, has_acted}
use Rattle.cal_policy.proofs.pass.Pass.core_taken.Goals as goal

pub returns-clause-choice : goal.returns-clause-choice
returns-clause-choice c = λ h acts st now. c.choose_for.ensures.choice h acts st (c.unhelped-unhelped.ensures.count h acts st)
    (c.has_acted-acted.ensures ∙ ap (λ l. has_acted c.args.self.now.config.now l c.args.task) now)
