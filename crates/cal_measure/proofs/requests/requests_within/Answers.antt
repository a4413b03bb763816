use Rattle.cal_measure.proofs.Common.{◌++◌, ◌∙◌, ap, [], request_within, one_of}
use Rattle.cal_measure.proofs.Steps.{each_grown}
use Rattle.cal_measure.proofs.requests.requests_within.Goals as goal

pub loop-request-preserved : goal.loop-request-preserved
loop-request-preserved c = λ came clocks.
    let xs = c.args.requests.now in
    let i = c.loop-request.request-index in
    each_grown (request_within c.args.window came) [] xs i _ c.loop-request.within.items _ c.loop-request-test.true (c.loop-request.invariant came clocks)
    (c.in_ok-put_request.ensures ∙ ap (λ o. c.loop-request.within.items ++ one_of o) (c.request_within.ensures came clocks))
