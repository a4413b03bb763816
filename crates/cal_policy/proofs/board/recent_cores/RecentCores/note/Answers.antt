use Rattle.cal_policy.proofs.Common.{refl, threads_of_table, granted_in}
use Rattle.cal_policy.proofs.BoardLemmas.RecentCores.{thread_below}
use Rattle.cal_policy.proofs.board.recent_cores.RecentCores.note.Goals as goal

pub grant-requires-clause-before : goal.grant-requires-clause-before
grant-requires-clause-before c =
    rw (c.thread_granted-before.ensures c.in-Grant.core refl)
    (thread_below (granted_in c.args.holding.now c.in-Grant.core) (threads_of_table c.args.config.now) (c.requires.sound.granted c.in-Grant.core))
