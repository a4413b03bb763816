use Rattle.std.proofs.Common.{◌≡◌, ◌++◌, List, take}
use Rattle.cal_policy.specs.State.{Agrees, IsReady}
use Rattle.cal_policy.specs.declared.history.action.Action.{Action}
use Rattle.cal_policy.specs.declared.history.entry.PassEntry.{PassEntry}
use Rattle.cal_sched.proofs.Sent.{SentBelow}
use Rattle.cal_replay.specs.Passes.{MaySendSo}
use Rattle.cal_replay.proofs.sending.send_each.Given as goal

-- the commands of the first actions were sent, and the state is the one after them
abbrev pub invariant-loop-action : goal.invariant-loop-action
invariant-loop-action l = record {
  sent : (before : List PassEntry) → MaySendSo l.config before l.entry l.initial.sent l.initial.senders.items → SentBelow l.action-index before l.entry l.initial.senders.items l.senders.items;
  agrees : (x : List Action) → Agrees l.initial.sent x → Agrees l.sent (x ++ take l.action-index l.entry.actions);
  ready : IsReady l.config l.sent;
}
