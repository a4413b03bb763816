use Rattle.cal_load.proofs.Common.{◌≡◌, All, length, IsQueue, slots_in}
use Rattle.cal_load.proofs.making.Coming.new.Given as goal

abbrev pub invariant-loop-k : goal.invariant-loop-k
invariant-loop-k l = record {
  queues : All (IsQueue l.turns) l.queues.items;
  many : length l.queues.items ≡ l._k;
  none : slots_in l.queues.items ≡ 0;
}
