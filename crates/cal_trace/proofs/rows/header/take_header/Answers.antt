use Rattle.std.proofs.lemmas.Result.{err_from_is_err_and}
use Rattle.cal_trace.proofs.RowLemmas.Refusals.{refused}
use Rattle.cal_trace.proofs.rows.header.take_header.Goals as goal

pub returns-in_err-step-clause-gives : goal.returns-in_err-step-clause-gives
returns-in_err-step-clause-gives c =
    let p = err_from_is_err_and c.from_residual.result c.from_residual.ensures.1 in
    rw (p.1, p.2) (refused _ _ c.in_err-step.ensures.refused)
