use Rattle.cal_kthread.proofs.Common.{ap, arith, QueueView}
use Rattle.crossbeam_deque.specs.Handles.{worker_view}
use Rattle.cal_kthread.proofs.QueueMoves.{forks}
use Rattle.cal_kthread.proofs.queue.OwnQueue.lend.Goals as goal

pub another-pass-requires : goal.another-pass-requires
another-pass-requires c = forks _ (worker_view c.self.inside.worker) (let e = ap (λ (q : QueueView). q.shares) c.self.view_is in let r = c.requires in omega (arith, e, r))
