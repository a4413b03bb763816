use Rattle.cal_policy.proofs.pass.Pass.victim_choice.Goals as goal

pub returns-clause-victim : goal.returns-clause-victim
returns-clause-victim c = λ h acts st. c.victim.ensures.victim h acts st (c.cores_to_lose-highest.ensures.lose h acts st)
