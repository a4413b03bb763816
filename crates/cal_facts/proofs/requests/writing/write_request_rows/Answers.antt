use Rattle.cal_facts.proofs.Common.{List, subst, Appends-trans, on_ok_weaker, Appends, flat_map, request_line}
use Rattle.cal_trace.specs.declared.arrivals.Arrival.{Arrival}
use Rattle.cal_facts.proofs.requests.writing.write_request_rows.Goals as goal

pub returns : goal.returns
returns g c = λ came all told are.
    let table = c.args.run.now.config in
    let arrivals = c.args.run.now.arrivals in
    let old = g.W.Write.contents c.args.writer.now in
    let mid = g.W.Write.contents c.write_columns.new.writer in
    let new = g.W.Write.contents c.write_each_request.new.writer in
    on_ok_weaker c.write_each_request.result
    (λ second. Appends-trans old mid new _ _ c.in_ok-write_columns.ensures
    (subst (λ (l : List Arrival). Appends mid new (flat_map (request_line table arrivals came all) l)) c.as_slice.ensures second))
    (c.write_each_request.ensures came all told are)
