use Rattle.cal_facts.proofs.LineLemmas.{one_more_line}
use Rattle.cal_facts.specs.RequestRows.{request_line}
use Rattle.cal_facts.proofs.requests.writing.write_each_request.Goals as goal

pub loop-arrival-preserved : goal.loop-arrival-preserved
loop-arrival-preserved g c = λ came all told are.
    one_more_line (request_line c.args.run.now.config c.args.run.now.arrivals came all) _ _ _ c.args.requests.now c.loop-arrival.arrival-index _ c.loop-arrival-test.true
    (c.loop-arrival.invariant came all told are) (c.in_ok-write_request.ensures came all told are)
