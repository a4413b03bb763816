use Rattle.cal_engine.proofs.Common.{◌≡◌, ℕ, List, Err, Result, rules, Run, RunFault, answered, refused, run_report, Reports, decided_run_by}
use Rattle.cal_engine.proofs.Reporting.{refused_text, reports}
use Rattle.cal_engine.proofs.jobs.deciding.decide_by.Goals as goal

pub returns-in_err-report-clause-exact : goal.returns-in_err-report-clause-exact
returns-in_err-report-clause-exact g c =
    let text = c.in_ok-input.input.items in
    let fault : c.from_residual-in_err-report.result ≡ Err c.in_err-report.field-0.0 = search rules in
    rw fault (refused (g.R.Read.remaining c.args.reader) (g.R.Read.remaining c.read_input.new.reader) text (decided_run_by c.args.policy) c.in_err-report.field-0.0
    c.in_ok-input.ensures.all c.in_ok-input.ensures.end c.in_ok-input.ensures.short
    (refused_text run_report (decided_run_by c.args.policy text) c.in_err-report.field-0.0 (rw c.as_slice.ensures.value at c.in_err-report.ensures)))

pub returns-clause-exact : goal.returns-clause-exact
returns-clause-exact g c =
    let text = c.in_ok-input.input.items in
    answered (λ (given : List ℕ) (outcome : Result Run RunFault). Reports c.write_answer.result outcome (g.W.Write.contents c.args.writer.now) (g.W.Write.contents c.write_answer.new.writer))
    (g.R.Read.remaining c.args.reader) (g.R.Read.remaining c.read_input.new.reader) text (decided_run_by c.args.policy)
    c.in_ok-input.ensures.all c.in_ok-input.ensures.end c.in_ok-input.ensures.short
    (reports c.write_answer.result (decided_run_by c.args.policy text) _ _ c.in_ok-report.report.items (rw c.as_slice.ensures.value at c.in_ok-report.ensures)
    (rw c.as_slice-2.ensures.value at c.write_answer.ensures.bytes) c.write_answer.ensures.kind)
