use Rattle.cal_trace.proofs.Common.{◌∙◌, refl, ap, codes, err_from_is_err_and, header_of, rest_of, rows_of, at_start, whole, extent_of, Extent}
use Rattle.cal_trace.specs.History.{take_row}
use Rattle.cal_trace.proofs.HistoryLemmas.GivenPasses.{HasGiven-none}
use Rattle.cal_trace.proofs.RowLemmas.Readings.{no_header}
use Rattle.cal_trace.proofs.history.file.HistoryRows.open.Goals as goal

pub returns-in_err-rows-clause-fault : goal.returns-in_err-rows-clause-fault
returns-in_err-rows-clause-fault c =
    let p = err_from_is_err_and c.from_residual.result c.from_residual.ensures.1 in
    let gives = rw c.as_slice.ensures at c.in_err-rows.ensures.gives in
    rw (p.1, p.2) (no_header (take_row (extent_of c.args.config.now)) whole at_start (header_of (codes "caladan-history") (rows_of c.args.text.now)) c.in_err-rows.field-0.0 gives)

pub returns-clause-given : goal.returns-clause-given
returns-clause-given c =
    let header = rw c.as_slice.ensures at c.in_ok-rows.ensures.gives in
    let start = c.new-reading.ensures in
    HasGiven-none (extent_of c.args.config.now) c.args.text.now c.in_ok-rows.version (rest_of c.in_ok-rows.rows) _ header refl c.in_ok-rows.ensures.number
    (start.file ∙ ap (λ (e : Extent). (e, c.in_ok-rows.version)) c.extent_of.ensures) start.start start.kept
