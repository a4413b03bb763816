use Rattle.cal_trace.proofs.Common.{◌<◌, ◌+◌, refl, ap, sym, fields_of, MOST_PASSES}
use Rattle.cal_trace.proofs.RowLemmas.Passes.{counted-begun, pass_below}
use Rattle.cal_trace.proofs.rows.so_far.PassesSoFar.take_pass.Goals as goal

pub returns-clause-counted : goal.returns-clause-counted
returns-clause-counted g c = λ given counted.
    let old = c.args.self.now in
    let below : old.passes < MOST_PASSES = pass_below old.passes (fields_of c.args.row.now) c.in_ok-row.row (sym c.in_ok-row.ensures) in
    counted-begun g.P.PassAtHand.pass given c.close-closed.result old _ _ counted below c.close-closed.ensures.closed refl (ap (λ r. r.passes + 1) c.close-closed.ensures.left)
