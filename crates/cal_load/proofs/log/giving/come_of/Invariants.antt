use Rattle.cal_load.proofs.Common.{◌≡◌, length, take, IsComing, rows_for}
use Rattle.cal_load.proofs.log.giving.come_of.Given as goal

-- as many as the rows so far have
abbrev pub invariant-loop-place : goal.invariant-loop-place
invariant-loop-place l = record {
  is : IsComing l.coming;
  threads : length l.coming.queues.items ≡ l.threads;
  turns : l.coming.turns ≡ l.turns;
  came : l.coming.came ≡ length (rows_for l.task (take l.place l.rows));
}
