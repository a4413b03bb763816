use Rattle.cal_world.proofs.Common.{◌≡◌, ◌<◌, ◌≤◌, ℕ, List, length, Some, slice_get, Action, AreSent}
use Rattle.cal_world.specs.World.Outbox.{Outbox}
use Rattle.cal_world.proofs.world.sending.make_room.Given as goal

abbrev pub invariant-loop-k : goal.invariant-loop-k
invariant-loop-k l = record {
  all : length l.sent.items ≡ length l.initial.sent.items;
  same : (x : List Action) → AreSent l.initial.sent.items x → AreSent l.sent.items x;
  room : (j : ℕ) (o : Outbox) → j < l.k → slice_get l.sent.items j ≡ Some o → l.additional ≤ o.room;
}
