use Rattle.std.proofs.lemmas.Result.{on_ok_weaker}
use Rattle.cal_trace.proofs.ArrivalLemmas.Lines.{whole_arrivals}
use Rattle.cal_trace.proofs.arrivals.text.write_rows.Goals as goal

pub returns : goal.returns
returns g c =
    let passes = rw c.as_slice-passes.ensures at c.in_ok-write_passes.ensures in
    let turns = rw c.as_slice-turns.ensures at c.in_ok-write_turns.ensures in
    let requests = rw c.as_slice-requests.ensures at c.in_ok-write_requests.ensures in
    on_ok_weaker c.write_end.result (λ end. whole_arrivals _ _ _ _ _ _ c.args.arrivals.now c.in_ok-write_header.ensures passes turns requests end)
    (rw c.row_count.ensures at c.write_end.ensures)
