use Rattle.cal_load.proofs.Common.{◌≡◌, length, IsComing}
use Rattle.cal_load.proofs.making.TaskLoad.come.Given as goal

abbrev pub invariant-loop-k : goal.invariant-loop-k
invariant-loop-k g l = record {
  is : IsComing l.coming;
  threads : length l.coming.queues.items ≡ l.threads;
  turns : l.coming.turns ≡ l.turns;
}
