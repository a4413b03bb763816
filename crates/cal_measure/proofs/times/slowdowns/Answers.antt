use Rattle.cal_measure.proofs.Common.{◌++◌, ◌∙◌, ap, [], slowdown_by, one_of}
use Rattle.cal_measure.proofs.Steps.{each_grown}
use Rattle.cal_measure.proofs.times.slowdowns.Goals as goal

pub loop-service-preserved : goal.loop-service-preserved
loop-service-preserved c = λ came clocks.
    let xs = c.args.services.now in
    let i = c.loop-service.service-index in
    each_grown (slowdown_by came) [] xs i _ c.loop-service.slowdowns.items _ c.loop-service-test.true (c.loop-service.invariant came clocks)
    (c.in_ok-put_number.ensures ∙ ap (λ o. c.loop-service.slowdowns.items ++ one_of o) (c.slowdown.ensures came clocks))
