use Rattle.cal_policy.proofs.PolicyLemmas.{legal_of}
use Rattle.cal_engine.proofs.jobs.auditing.OpenAudit.end.Goals as goal

pub returns-in-Legal-clause-text : goal.returns-in-Legal-clause-text
returns-in-Legal-clause-text c = λ policy h takes right.
    rw c.in-Legal.is (c.end_legal.ensures.text policy h takes (legal_of policy c.args.config.now h (rw c.in-Legal.is at right)))
