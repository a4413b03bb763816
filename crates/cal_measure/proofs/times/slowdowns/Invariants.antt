use Rattle.cal_measure.proofs.Common.{◌≡◌, List, take, Came, AreClocksOf, slowdowns_of}
use Rattle.cal_measure.proofs.times.slowdowns.Given as goal

abbrev pub invariant-loop-service : goal.invariant-loop-service
invariant-loop-service l = (came : List Came) → AreClocksOf came l.clocks →
    l.slowdowns.items ≡ slowdowns_of came (take l.service-index l.services)
