use Rattle.cal_measure.proofs.Common.{◌≡◌, List, map, take, Came, AreClocksOf, wait_of}
use Rattle.cal_measure.proofs.times.waits.Given as goal

abbrev pub invariant-loop-service : goal.invariant-loop-service
invariant-loop-service l = (came : List Came) → AreClocksOf came l.clocks →
    l.times.items ≡ map (wait_of came) (take l.service-index l.services)
