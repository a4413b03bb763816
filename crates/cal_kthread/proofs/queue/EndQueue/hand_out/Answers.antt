use Rattle.cal_kthread.proofs.QueueMoves.{hands_out, finds}
use Rattle.cal_kthread.proofs.queue.EndQueue.hand_out.Goals as goal

pub pop_as-requires-clause-fifo : goal.pop_as-requires-clause-fifo
pop_as-requires-clause-fifo c _ = hands_out _ _ c.self.invariant.1

pub pop_as-requires-clause-empty : goal.pop_as-requires-clause-empty
pop_as-requires-clause-empty c = finds _ _
