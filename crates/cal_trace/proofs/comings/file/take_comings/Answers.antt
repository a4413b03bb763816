use Rattle.cal_trace.proofs.Common.{ap, err_from_is_err_and, read_under, rest_of}
use Rattle.cal_trace.specs.Comings.{at_start, below_header, take_row, whole}
use Rattle.cal_trace.proofs.RowLemmas.Readings.{no_header}
use Rattle.cal_trace.proofs.comings.file.take_comings.Goals as goal

pub returns-in_err-take_coming_header : goal.returns-in_err-take_coming_header
returns-in_err-take_coming_header c =
    let p = err_from_is_err_and c.from_residual.result c.from_residual.ensures.1 in
    rw (p.1, p.2)
    (no_header (λ version. take_row c.args.tasks) whole (at_start c.args.requests.now) (below_header (rest_of c.args.rows.now))
    c.in_err-take_coming_header.field-0.0 c.in_err-take_coming_header.ensures.gives)

pub returns : goal.returns
returns c =
    let start = c.new.ensures in
    let rows = rw (start.tasks, start.start, c.in_ok-take_coming_header.ensures.number) at c.take_rows.ensures in
    rw (ap (read_under (λ version. take_row c.args.tasks) whole (at_start c.args.requests.now)) c.in_ok-take_coming_header.ensures.gives) rows
