use Rattle.cal_load.proofs.Common.{◌≡◌, length, IsComing}
use Rattle.cal_load.proofs.making.TaskLoad.give_at.Given as goal

abbrev pub invariant-loop-k : goal.invariant-loop-k
invariant-loop-k g l = record {
  is : IsComing l.coming;
  threads : length l.coming.queues.items ≡ length l.initial.coming.queues.items;
  turns : l.coming.turns ≡ l.initial.coming.turns;
}
