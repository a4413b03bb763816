use Rattle.cal_tables.proofs.Common.{◌≡◌, Err, List, Result, ap, rules, PassEntry, asked_history}
use Rattle.cal_input.proofs.Refusals.{refused_history}
use Rattle.cal_input.specs.Recorded.{recorded_on}
use Rattle.cal_input.specs.declared.fault.RunFault.TheVariants as fault
use Rattle.cal_trace.proofs.HistoryLemmas.ReadInRange.{read_in_range}
use Rattle.cal_trace.specs.History.Reading.{extent_of}
use Rattle.cal_trace.specs.History.{history_of}
use Rattle.cal_trace.specs.Rows.{rows_of}
use Rattle.cal_trace.specs.declared.fault.TraceFault.{TraceFault}
use Rattle.cal_tables.proofs.asking.recorded.Goals as goal

pub returns-in_err-history-clause-fault : goal.returns-in_err-history-clause-fault
returns-in_err-history-clause-fault c =
    let same : c.from_residual.result ≡ Err (fault.Trace c.in_err-history.field-0.0) = search rules in
    rw same (refused_history c.args.config (history_of (extent_of c.args.config) (rows_of c.args.trace.now)) c.in_err-history.field-0.0 c.in_err-history.ensures)

pub returns-clause-exact : goal.returns-clause-exact
returns-clause-exact c = ap (λ (h : Result (List PassEntry) TraceFault). asked_history (recorded_on c.args.config h)) c.in_ok-history.ensures

pub returns-clause-accepted : goal.returns-clause-accepted
returns-clause-accepted c = read_in_range (extent_of c.args.config) (rows_of c.args.trace.now) c.in_ok-history.history.items c.in_ok-history.ensures
