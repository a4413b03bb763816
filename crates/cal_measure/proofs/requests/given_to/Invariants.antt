use Rattle.cal_measure.proofs.Common.{◌≡◌, take, given_to}
use Rattle.cal_measure.proofs.requests.given_to.Given as goal

abbrev pub invariant-loop-arrival : goal.invariant-loop-arrival
invariant-loop-arrival l = l.count ≡ given_to l.config (take l.arrival-index l.requests) l.task
