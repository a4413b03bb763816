use Rattle.cal_tables.proofs.Common.{◌≡◌, Err, rules, fault_of_plan}
use Rattle.cal_tables.proofs.Planning.{fault_of}
use Rattle.cal_tables.proofs.planned.counted_paced.Goals as goal

pub returns-in_err-given-clause-fault : goal.returns-in_err-given-clause-fault
returns-in_err-given-clause-fault c =
    let same : c.from_residual.result ≡ Err (fault_of_plan c.in_err-given.field-0.0) = search rules in
    rw same (fault_of c.args.plan.now c.args.arrivals c.in_err-given.field-0.0 c.in_err-given.ensures.fault)

pub returns-clause-numbers : goal.returns-clause-numbers
returns-clause-numbers c = c.in_ok-numbers.ensures.numbers c.args.arrivals c.in_ok-given.ensures.planned
