use Rattle.cal_sched.specs.Past.{history_of, entry_of}
use Rattle.cal_sched.proofs.Sent.{SentBelow}
use Rattle.cal_sched.proofs.sending.send_commands.Given as goal

abbrev pub invariant-loop-action : goal.invariant-loop-action
invariant-loop-action l = SentBelow l.action-index (history_of l.book.policy l.config l.past) (entry_of l.book.policy l.config (history_of l.book.policy l.config l.past) l.pass) l.initial.senders l.senders
