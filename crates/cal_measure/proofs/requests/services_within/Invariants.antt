use Rattle.cal_measure.proofs.Common.{◌≡◌, List, take, Came, AreClocksOf, services_within}
use Rattle.cal_measure.proofs.requests.services_within.Given as goal

abbrev pub invariant-loop-service : goal.invariant-loop-service
invariant-loop-service l = (came : List Came) → AreClocksOf came l.clocks →
    l.within.items ≡ services_within l.window came (take l.service-index l.services)
