use Rattle.cal_kthread.proofs.QueueMoves.{pushes}
use Rattle.cal_kthread.proofs.queue.OwnQueue.push.Goals as goal

pub push_as-requires-clause-pushes : goal.push_as-requires-clause-pushes
push_as-requires-clause-pushes c = pushes _ _ _ c.self.invariant.1
