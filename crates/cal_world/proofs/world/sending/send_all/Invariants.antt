use Rattle.cal_world.proofs.Common.{◌≡◌, ◌-◌, ◌++◌, List, length, take, Action, AreGranted, AreSent, HaveRoom}
use Rattle.cal_world.proofs.world.sending.send_all.Given as goal

abbrev pub invariant-loop-action : goal.invariant-loop-action
invariant-loop-action l = record {
  all : length l.sent.items ≡ length l.fn.sent.items;
  granted : (x : List Action) → AreGranted l.fn.granted x → AreGranted l.granted (x ++ take l.action-index l.actions);
  sent : (x : List Action) → AreGranted l.fn.granted x → AreSent l.fn.sent.items x → AreSent l.sent.items (x ++ take l.action-index l.actions);
  room : HaveRoom l.sent.items (length l.actions - l.action-index);
}
