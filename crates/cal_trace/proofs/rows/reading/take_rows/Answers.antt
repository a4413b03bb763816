use Rattle.cal_trace.proofs.Common.{◌∙◌, row_at}
use Rattle.cal_trace.proofs.RowLemmas.Readings.{more_rows, bad_row, no_row}
use Rattle.cal_trace.proofs.rows.reading.take_rows.Goals as goal

pub returns-in-Err : goal.returns-in-Err
returns-in-Err g c =
    let steps = rw c.if-branch.true at c.in_ok-step.ensures.steps in
    let takes = rw c.row.ensures at c.in-Err.ensures.takes in
    rw (c.number.ensures, steps.1) (bad_row _ _ _ c.loop-reading.rows.number (row_at c.step.new.self) _ _ c.in-Err.kind _ c.loop-reading.invariant.same steps.0 takes)

pub loop-reading-preserved : goal.loop-reading-preserved
loop-reading-preserved g c =
    let steps = rw c.if-branch.true at c.in_ok-step.ensures.steps in
    let takes = rw c.row.ensures at c.in_default.ensures.takes in
    record {
      rows = steps.2;
      kept = c.in_default.ensures.kept;
      take = c.in_default.ensures.same ∙ c.loop-reading.invariant.take;
      same = rw (c.in_default.ensures.same, steps.1) (more_rows _ _ _ c.loop-reading.rows.number _ (row_at c.step.new.self) _ _ _ c.loop-reading.invariant.same steps.0 takes);
    }

pub returns-in-Some : goal.returns-in-Some
returns-in-Some g c =
    let steps = rw c.if-branch.false at c.in_ok-step.ensures.steps in
    no_row _ _ _ c.loop-reading.rows.number _ _ _ c.loop-reading.invariant.same steps.0 c.in-Some.ensures

pub returns-in-None : goal.returns-in-None
returns-in-None g c =
    let steps = rw c.if-branch.false at c.in_ok-step.ensures.steps in
    rw (c.number-in-None.ensures, steps.1) (no_row _ _ _ c.loop-reading.rows.number _ _ _ c.loop-reading.invariant.same steps.0 c.in-None.ensures)
