use Rattle.cal_trace.proofs.Common.{◌∙◌, ℕ, refl, ap, codes, err_from_is_err_and, threads_in, header_of, rest_of, rows_of, at_start, whole}
use Rattle.cal_trace.specs.Signals.{take_row}
use Rattle.cal_trace.proofs.GivenSignals.{HasGiven-none}
use Rattle.cal_trace.proofs.RowLemmas.Readings.{no_header}
use Rattle.cal_trace.proofs.signals.file.SignalRows.open.Goals as goal

pub returns-in_err-rows-clause-fault : goal.returns-in_err-rows-clause-fault
returns-in_err-rows-clause-fault c =
    let p = err_from_is_err_and c.from_residual.result c.from_residual.ensures.1 in
    let gives = rw c.as_slice.ensures at c.in_err-rows.ensures.gives in
    rw (p.1, p.2) (no_header (take_row (threads_in c.args.config.now.tasks)) whole at_start (header_of (codes "caladan-signals") (rows_of c.args.text.now)) c.in_err-rows.field-0.0 gives)

pub returns-in-Ok-clause-given : goal.returns-in-Ok-clause-given
returns-in-Ok-clause-given c =
    let header = rw c.as_slice.ensures at c.in_ok-rows.ensures.gives in
    let start = c.in-Ok.ensures in
    HasGiven-none (threads_in c.args.config.now.tasks) c.args.text.now c.in_ok-rows.version (rest_of c.in_ok-rows.rows) _ header refl c.in_ok-rows.ensures.number
    (start.file ∙ ap (λ (n : ℕ). (n, c.in_ok-rows.version)) c.threads.ensures.count) start.start start.kept
