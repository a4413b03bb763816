use Rattle.cal_facts.proofs.Common.{List, Option, take, Appends, flat_map, AreClocksTold, request_line, AreServed, Served}
use Rattle.cal_came.specs.declared.came.Came.{Came}
use Rattle.cal_facts.proofs.requests.writing.write_each_request.Given as goal

abbrev pub invariant-loop-arrival : goal.invariant-loop-arrival
invariant-loop-arrival g l = (came : Option (List Came)) (all : List Served) → AreClocksTold came l.run.came → AreServed all l.run.served →
    Appends (g.W.Write.contents l.initial.writer) (g.W.Write.contents l.writer) (flat_map (request_line l.run.config l.run.arrivals came all) (take l.arrival-index l.requests))
