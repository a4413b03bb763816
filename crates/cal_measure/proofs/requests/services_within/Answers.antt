use Rattle.cal_measure.proofs.Common.{◌++◌, ◌∙◌, ap, [], service_within, one_of}
use Rattle.cal_measure.proofs.Steps.{each_grown}
use Rattle.cal_measure.proofs.requests.services_within.Goals as goal

pub loop-service-preserved : goal.loop-service-preserved
loop-service-preserved c = λ came clocks.
    let xs = c.args.services.now in
    let i = c.loop-service.service-index in
    each_grown (service_within c.args.window came) [] xs i _ c.loop-service.within.items _ c.loop-service-test.true (c.loop-service.invariant came clocks)
    (c.in_ok-put_one.ensures ∙ ap (λ o. c.loop-service.within.items ++ one_of o) (c.service_within.ensures came clocks))
