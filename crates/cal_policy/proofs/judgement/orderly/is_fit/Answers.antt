use Rattle.cal_policy.proofs.judgement.orderly.is_fit.Goals as goal

pub returns-in-Cap-clause-fits : goal.returns-in-Cap-clause-fits
returns-in-Cap-clause-fits c = λ x a. rw c.in-Cap.is (c.may_cap.ensures.fits x)

-- neither a ban's begin nor a grant's class has a part in it
pub returns-in-Ban-clause-fits : goal.returns-in-Ban-clause-fits
returns-in-Ban-clause-fits c = λ x a. rw c.in-Ban.is (c.may_ban_for.ensures.fits x 0 a)

pub returns-in-Ban-clause-names : goal.returns-in-Ban-clause-names
returns-in-Ban-clause-names c = λ yes. rw c.in-Ban.is (c.may_ban_for.ensures.names 0 yes)

pub returns-in-Grant-clause-fits : goal.returns-in-Grant-clause-fits
returns-in-Grant-clause-fits c = λ x a. rw c.in-Grant.is (c.may_grant.ensures.fits x 0 a)

pub returns-in-Grant-clause-names : goal.returns-in-Grant-clause-names
returns-in-Grant-clause-names c = λ yes. rw c.in-Grant.is (c.may_grant.ensures.names 0 yes)
