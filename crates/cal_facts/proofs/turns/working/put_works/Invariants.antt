use Rattle.cal_facts.proofs.Common.{◌≡◌, ◌++◌, length, take, all_served, work_in}
use Rattle.cal_policy.specs.History.Lists.{each_of}
use Rattle.cal_facts.proofs.turns.working.put_works.Given as goal

abbrev pub invariant-loop-turn : goal.invariant-loop-turn
invariant-loop-turn l = record {
  works : l.works.items ≡ l.initial.works.items ++ each_of (work_in l.thread l.requests.items) (take l.turn-index l.turns);
  served : l.served ≡ length (all_served (take l.turn-index l.turns));
}
