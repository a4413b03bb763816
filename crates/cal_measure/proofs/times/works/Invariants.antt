use Rattle.cal_measure.proofs.Common.{◌≡◌, map, take, worked_of}
use Rattle.cal_measure.proofs.times.works.Given as goal

abbrev pub invariant-loop-service : goal.invariant-loop-service
invariant-loop-service l = l.times.items ≡ map worked_of (take l.service-index l.services)
