use Rattle.cal_policy.proofs.pass.Pass.are_wanted.Goals as goal

pub returns : goal.returns
returns c = λ h acts st. c.are_wanted_counting.ensures.wanted h acts st tt
