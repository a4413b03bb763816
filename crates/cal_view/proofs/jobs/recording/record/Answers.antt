use Rattle.std.proofs.Common.{◌≡◌, Err, rules}
use Rattle.cal_input.specs.Recorded.{Run}
use Rattle.cal_input.proofs.WholeInput.{failed}
use Rattle.cal_engine.specs.Deciding.{decided_run_by}
use Rattle.cal_engine.proofs.Reporting.{refused_text}
use Rattle.cal_trace.specs.History.Text.{history_text}
use Rattle.cal_view.proofs.RecordedRuns.{records}
use Rattle.cal_view.proofs.jobs.recording.record.Goals as goal

pub returns-in_err-history-clause-exact : goal.returns-in_err-history-clause-exact
returns-in_err-history-clause-exact g c =
    let input = c.args.input.now in
    let fault : c.from_residual.result ≡ Err c.in_err-history.field-0.0 = search rules in
    rw fault (failed c.in_err-history.field-0.0 (decided_run_by c.args.policy input)
    (refused_text (λ (run : Run). history_text run.history) (decided_run_by c.args.policy input) c.in_err-history.field-0.0 c.in_err-history.ensures))

pub returns-clause-exact : goal.returns-clause-exact
returns-clause-exact g c =
    let input = c.args.input.now in
    let old = g.W.Write.contents c.args.writer.now in
    let new = g.W.Write.contents c.write_after_front.new.writer in
    records c.write_after_front.result c.args.front input (decided_run_by c.args.policy input) old new c.in_ok-history.history.items c.in_ok-history.ensures
    (rw c.as_slice.ensures.value at c.write_after_front.ensures.bytes) c.write_after_front.ensures.kind
