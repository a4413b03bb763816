use Rattle.cal_kthread.proofs.Common.{◌≡◌, length, AreOpened, Each, IsFresh}
use Rattle.cal_kthread.proofs.team.open_each.Given as goal

abbrev pub invariant-loop-number : goal.invariant-loop-number
invariant-loop-number l = AreOpened l.threads.items l.observers.items l.senders.items l.watchers.items × Each IsFresh l.threads.items × (length l.threads.items ≡ l.number)
