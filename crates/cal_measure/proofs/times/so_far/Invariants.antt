use Rattle.cal_measure.proofs.Common.{◌≡◌, List, map, take, Came, AreClocksOf, so_far_of}
use Rattle.cal_measure.proofs.times.so_far.Given as goal

abbrev pub invariant-loop-request : goal.invariant-loop-request
invariant-loop-request l = (came : List Came) → AreClocksOf came l.clocks →
    l.times.items ≡ map (so_far_of came l.end) (take l.request-index l.left)
