use Rattle.caladan_c.proofs.Common.{◌≡◌, take, map, look_of, look_of_found, judgement_of}
use Rattle.caladan_c.proofs.recorded.seen_in.Given as goal

abbrev pub invariant-loop-k : goal.invariant-loop-k
invariant-loop-k l = record {
  looks : map look_of l.seen.items ≡ map look_of_found (take l.k l.looks);
  judged : map judgement_of l.seen.items ≡ take l.k l.judged;
}
