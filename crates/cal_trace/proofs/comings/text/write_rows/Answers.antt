use Rattle.std.proofs.lemmas.Result.{on_ok_weaker}
use Rattle.cal_trace.proofs.ComingLemmas.Lines.{whole_comings}
use Rattle.cal_trace.proofs.comings.text.write_rows.Goals as goal

pub returns : goal.returns
returns g c =
    let requests = rw c.as_slice.ensures at c.in_ok-write_requests.ensures in
    on_ok_weaker c.write_left_out.result (λ left_out. whole_comings _ _ _ _ c.args.comings.now c.in_ok-write_header.ensures requests left_out)
    (rw c.as_slice-2.ensures at c.write_left_out.ensures)
