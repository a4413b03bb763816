use Rattle.std.proofs.Common.{◌≡◌, take, map}
use Rattle.caladan_c.specs.Recorded.{room_in}
use Rattle.caladan_c.proofs.recorded.rooms_in.Given as goal

abbrev pub invariant-loop-one : goal.invariant-loop-one
invariant-loop-one l = record {
  rooms : l.rooms.items ≡ map room_in (take l.one-index l.looks);
}
