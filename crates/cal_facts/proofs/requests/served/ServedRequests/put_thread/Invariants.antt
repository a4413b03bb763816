use Rattle.cal_facts.proofs.Common.{◌++◌, List, map, take, AreServed, served_by, Served}
use Rattle.cal_facts.proofs.requests.served.ServedRequests.put_thread.Given as goal

abbrev pub invariant-loop-service : goal.invariant-loop-service
invariant-loop-service l = (all : List Served) → AreServed all l.initial.self → AreServed (all ++ map (served_by l.thread) (take l.service-index l.services)) l.self
