use Rattle.cal_engine.proofs.Common.{◌≡◌, List, Err, IfOk, sym, subst, rules, Table, PassEntry, decided_run_by, HasLines, run_report}
use Rattle.cal_trace.specs.Report.{report_text}
use Rattle.cal_engine.proofs.Reporting.{no_run, text_kept}
use Rattle.cal_engine.proofs.jobs.deciding.decided_report.Goals as goal

pub returns-in_err-config : goal.returns-in_err-config
returns-in_err-config c =
    let same : c.from_residual.result ≡ Err c.in_err-config.field-0.0 = search rules in
    rw same (no_run run_report (decided_run_by c.args.policy c.args.input.now) c.in_err-config.field-0.0 c.in_err-config.ensures.fault)

pub returns : goal.returns
returns c =
    let keeps : List PassEntry → Type 0 = λ h. HasLines h c.decide_input.new.keeper in
    text_kept (λ report. report.items) c.end.result run_report keeps c.in_ok-config.config c.in_ok-config.decider (decided_run_by c.args.policy c.args.input.now) c.in_ok-config.ensures.decided
    (λ run has.
    let P : Table → Type 0 = λ t. IfOk c.end.result (λ text. text.items ≡ report_text t run.history) in
    subst P (sym has.same_table) (c.end.ensures.text run.history has.decided.kept (c.board.ensures.agrees run.history has.decided.agrees)))
    c.end.ensures.kind
