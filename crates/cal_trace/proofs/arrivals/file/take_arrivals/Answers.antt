use Rattle.cal_trace.proofs.Common.{ap, codes, err_from_is_err_and, take_row, header_of, in_version_one, read_under, rest_of}
use Rattle.cal_trace.specs.Arrivals.{at_start, whole}
use Rattle.cal_trace.proofs.RowLemmas.Readings.{no_header}
use Rattle.cal_trace.proofs.arrivals.file.take_arrivals.Goals as goal

pub returns-in_err-take_first_header : goal.returns-in_err-take_first_header
returns-in_err-take_first_header c =
    let p = err_from_is_err_and c.from_residual.result c.from_residual.ensures.1 in
    let gives = rw c.as_slice.ensures at c.in_err-take_first_header.ensures.gives in
    rw (p.1, p.2)
    (no_header (λ version. take_row c.args.threads) whole at_start (in_version_one (header_of (codes "caladan-arrivals") (rest_of c.args.rows.now)))
    c.in_err-take_first_header.field-0.0 gives)

pub returns : goal.returns
returns c =
    let header = rw c.as_slice.ensures at c.in_ok-take_first_header.ensures.gives in
    let start = c.new.ensures in
    let rows = rw (start.threads, start.start, c.in_ok-take_first_header.ensures.number) at c.take_rows.ensures in
    rw (ap (read_under (λ version. take_row c.args.threads) whole at_start) header) rows
