use Rattle.std.proofs.Common.{arith}
use Rattle.cal_kthread.proofs.QueueMoves.{takes}
use Rattle.cal_kthread.proofs.queue.Thief.steal.Goals as goal

pub steal_as-requires-clause-takes : goal.steal_as-requires-clause-takes
steal_as-requires-clause-takes c = takes _ _ (let e = c.self.invariant.share in omega (arith, e))
