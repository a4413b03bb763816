use Rattle.cal_trace.proofs.Common.{◌≡◌, ◌∙◌, Ok, ap, sym, subst, length, arith, append-nil, row_at}
use Rattle.cal_trace.proofs.RowLemmas.Readings.{more_rows, bad_row, no_row}
use Rattle.cal_trace.proofs.rows.passes.next_pass.Goals as goal

pub returns-in-Ok-Some-clause-gives : goal.returns-in-Ok-Some-clause-gives
returns-in-Ok-Some-clause-gives g c = λ given kept.
    let now = c.loop-reading.invariant.given given kept in
    let steps = rw c.if-branch.true at c.in_ok-step.ensures.steps in
    let takes = rw (c.row.ensures, c.in-Ok-Some.field-0-is) at (c.in-Ok-Some.ensures.takes given now.0) in
    let keeps = rw c.in-Ok-Some.field-0-is at (c.in-Ok-Some.ensures.kept given now.0) in
    (keeps, rw (c.in-Ok-Some.ensures.file, steps.1) (more_rows _ _ _ c.loop-reading.rows.number _ (row_at c.step.new.self) _ _ _ now.1 steps.0 takes))

pub loop-reading-preserved : goal.loop-reading-preserved
loop-reading-preserved g c =
    let steps = rw c.if-branch.true at c.in_ok-step.ensures.steps in
    record {
      rows = steps.2;
      ready = c.in-Ok-None.ensures.ready;
      file = c.in-Ok-None.ensures.file ∙ c.loop-reading.invariant.file;
      given = λ given kept.
          let now = c.loop-reading.invariant.given given kept in
          let takes = subst
          (λ all. g.R.PassReading.take (g.R.PassReading.file c.loop-reading.reading) (g.R.PassReading.so_far given c.loop-reading.reading) (row_at c.step.new.self) ≡ Ok (g.R.PassReading.so_far all c.take_row.new.self))
          (append-nil given) (rw (c.row.ensures, c.in-Ok-None.field-0-is) at (c.in-Ok-None.ensures.takes given now.0)) in
          let keeps = subst (λ all. g.R.PassReading.KeepsPasses all c.take_row.new.self) (append-nil given) (rw c.in-Ok-None.field-0-is at (c.in-Ok-None.ensures.kept given now.0)) in
          (keeps, rw (c.in-Ok-None.ensures.file, steps.1) (more_rows _ _ _ c.loop-reading.rows.number _ (row_at c.step.new.self) _ _ _ now.1 steps.0 takes));
      fewer = omega (arith, ap length steps.0, c.loop-reading.invariant.fewer);
    }

pub returns-in-Err-clause-gives : goal.returns-in-Err-clause-gives
returns-in-Err-clause-gives g c = λ given kept.
    let now = c.loop-reading.invariant.given given kept in
    let steps = rw c.if-branch.true at c.in_ok-step.ensures.steps in
    let takes = rw c.row.ensures at (c.in-Err.ensures.takes given now.0) in
    rw (c.number.ensures, steps.1) (bad_row _ _ _ c.loop-reading.rows.number (row_at c.step.new.self) _ _ c.in-Err.kind _ now.1 steps.0 takes)

pub returns-then-has_ended-clause-gives : goal.returns-then-has_ended-clause-gives
returns-then-has_ended-clause-gives g c = λ given kept.
    let now = c.loop-reading.invariant.given given kept in
    let steps = rw c.if-branch.false at c.in_ok-step.ensures.steps in
    no_row _ _ _ c.loop-reading.rows.number _ _ _ now.1 steps.0 (sym (rw c.if-has_ended.true at (c.has_ended.ensures given)))

pub returns-else-has_ended-clause-gives : goal.returns-else-has_ended-clause-gives
returns-else-has_ended-clause-gives g c = λ given kept.
    let now = c.loop-reading.invariant.given given kept in
    let steps = rw c.if-branch.false at c.in_ok-step.ensures.steps in
    rw (c.number-else-has_ended.ensures, steps.1)
    (no_row _ _ _ c.loop-reading.rows.number _ _ _ now.1 steps.0 (sym (rw c.if-has_ended.false at (c.has_ended.ensures given))))
