use Rattle.cal_measure.proofs.Common.{◌≡◌, List, take, Came, AreClocksOf, requests_within}
use Rattle.cal_measure.proofs.requests.requests_within.Given as goal

abbrev pub invariant-loop-request : goal.invariant-loop-request
invariant-loop-request l = (came : List Came) → AreClocksOf came l.clocks →
    l.within.items ≡ requests_within l.window came (take l.request-index l.requests)
