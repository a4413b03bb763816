use Rattle.cal_facts.proofs.Common.{take, AreServed}
use Rattle.cal_facts.proofs.ServedLemmas.{totals_from}
use Rattle.cal_facts.proofs.requests.served.ServedRequests.of.Given as goal

abbrev pub invariant-loop-thread : goal.invariant-loop-thread
invariant-loop-thread l = AreServed (totals_from 0 (take l.thread l.threads)) l.served
