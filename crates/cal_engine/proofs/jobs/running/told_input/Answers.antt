use Rattle.cal_engine.proofs.Common.{◌≡◌, Err, rules, IfErr-weaker, run_input_of, RunInput, failed}
use Rattle.cal_engine.proofs.WrittenRuns.{told_fault}
use Rattle.cal_engine.proofs.jobs.running.told_input.Goals as goal

pub returns-in_err-config-clause-fault : goal.returns-in_err-config-clause-fault
returns-in_err-config-clause-fault g c =
    let same : c.from_residual.result ≡ Err c.in_err-config.field-0.0 = search rules in
    rw same (failed c.in_err-config.field-0.0 (run_input_of c.args.input.now) c.in_err-config.ensures.exact)

pub returns-clause-told : goal.returns-clause-told
returns-clause-told g c = rw c.in_ok-config.ensures.exact c.tell_lockstep.ensures.told

pub returns-clause-begun : goal.returns-clause-begun
returns-clause-begun g c = rw c.in_ok-config.ensures.exact c.tell_lockstep.ensures.begun

pub returns-clause-fault : goal.returns-clause-fault
returns-clause-fault g c =
    let input : RunInput = record { table = c.in_ok-config.config; arrivals = c.in_ok-config.arrivals } in
    rw c.in_ok-config.ensures.exact (IfErr-weaker c.tell_lockstep.result _ _ (λ f kind. told_fault f input kind) c.tell_lockstep.ensures.kind)
