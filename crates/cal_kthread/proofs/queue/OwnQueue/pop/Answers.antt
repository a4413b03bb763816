use Rattle.cal_kthread.proofs.QueueMoves.{takes}
use Rattle.cal_kthread.proofs.queue.OwnQueue.pop.Goals as goal

pub pop_as-found-requires-clause-fifo : goal.pop_as-found-requires-clause-fifo
pop_as-found-requires-clause-fifo c _ = takes _ _ c.self.invariant.1
