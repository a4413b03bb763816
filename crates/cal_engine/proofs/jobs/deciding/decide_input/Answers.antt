use Rattle.std.proofs.Common.{◌≡◌, Err, rules}
use Rattle.cal_engine.proofs.jobs.deciding.decide_input.Goals as goal

pub returns-clause-decided : goal.returns-clause-decided
returns-clause-decided g c = rw c.in_ok-config.ensures c.in_ok-decider.ensures.decided

pub returns-in_err-decider-clause-fault : goal.returns-in_err-decider-clause-fault
returns-in_err-decider-clause-fault g c =
    let same : c.from_residual-in_err-decider.result ≡ Err c.in_err-decider.field-0.0 = search rules in
    rw (same, c.in_ok-config.ensures) c.in_err-decider.ensures.decided
