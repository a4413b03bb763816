use Rattle.cal_engine.proofs.Common.{◌≡◌, ◌<◌, ◌+◌, ◌^◌, [], ◌∷◌, ◌++◌, Err, length, arith, rules, extent_of, rows_of}
use Rattle.cal_trace.specs.History.{history_of}
use Rattle.cal_trace.proofs.HistoryLemmas.GivenPasses.{few_given}
use Rattle.cal_input.specs.declared.fault.RunFault.TheVariants as fault
use Rattle.cal_input.proofs.Refusals.{refused_history}
use Rattle.cal_engine.proofs.Audited.{audited}
use Rattle.cal_engine.proofs.jobs.auditing.audit_rows.Goals as goal

pub loop-audit-init : goal.loop-audit-init
loop-audit-init c = record {
  ready = c.requires;
  of = c.in_ok-audit.ensures.of;
  auditing = λ trace has. record { given = []; has = has; takes = c.in_ok-audit.ensures.takes };
}

pub loop-audit-preserved : goal.loop-audit-preserved
loop-audit-preserved c = record {
  ready = rw c.in-Some.is at c.in_ok-entry.ensures.ready;
  of = c.in_ok-take.ensures.of;
  auditing = λ trace start.
      let extent = extent_of c.args.config.now in
      let before = c.loop-audit.invariant.auditing trace start in
      let few : length before.given + 1 < 2 ^ 64 = omega (arith, few_given extent trace before.given c.loop-audit.rows before.has) in
      record {
        given = before.given ++ c.in-Some.entry ∷ [];
        has = rw c.in-Some.is at (c.in_ok-entry.ensures.gives extent trace before.given before.has);
        takes = c.in_ok-take.ensures.takes c.args.policy before.given few before.takes;
      };
}

pub returns-in_err-entry-clause-audits : goal.returns-in_err-entry-clause-audits
returns-in_err-entry-clause-audits c = λ trace start.
    let extent = extent_of c.args.config.now in
    let before = c.loop-audit.invariant.auditing trace start in
    let same : c.from_residual-in_err-entry.result ≡ Err (fault.Trace c.in_err-entry.field-0.0) = search rules in
    rw same (refused_history c.args.config.now (history_of extent (rows_of trace)) c.in_err-entry.field-0.0
    (c.in_err-entry.ensures.gives extent trace before.given before.has))

pub returns-clause-audits : goal.returns-clause-audits
returns-clause-audits c = λ trace start.
    let table = c.args.config.now in
    let before = c.loop-audit.invariant.auditing trace start in
    let gives = rw c.in_default.is at (c.in_ok-entry.ensures.gives (extent_of table) trace before.given before.has) in
    audited c.args.policy table (history_of (extent_of table) (rows_of trace)) before.given c.loop-audit.audit gives before.takes
