use Rattle.cal_kthread.proofs.QueueMoves.{merges}
use Rattle.cal_kthread.proofs.queue.EndQueue.absorb.Goals as goal

pub absorb-requires-clause-rule : goal.absorb-requires-clause-rule
absorb-requires-clause-rule c = merges _ _ _ _ c.self.invariant.1 c.thief.invariant.no_push c.thief.invariant.none_handed
