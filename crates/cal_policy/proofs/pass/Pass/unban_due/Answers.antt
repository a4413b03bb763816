use Rattle.cal_policy.proofs.pass.Pass.unban_due.Goals as goal

pub returns-clause-due : goal.returns-clause-due
returns-clause-due c = λ h acts st. c.unban_due_counting.ensures.due h acts st tt
