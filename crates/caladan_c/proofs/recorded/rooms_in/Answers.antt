use Rattle.std.proofs.Common.{rules, ◌≡◌, ◌++◌, ◌∷◌, []}
use Rattle.caladan_c.specs.Recorded.{room_in}
use Rattle.caladan_c.proofs.OneMore.{told_more}
use Rattle.caladan_c.proofs.recorded.rooms_in.Goals as goal

pub loop-one-preserved : goal.loop-one-preserved
loop-one-preserved c =
    let pushed : c.push.new.self.items ≡ c.loop-one.rooms.items ++ c.had_room.result ∷ [] = search rules in
    record { rooms = told_more room_in c.args.looks.now c.loop-one.one-index _ _ _ c.had_room.result c.loop-one-test.true c.loop-one.invariant.rooms c.had_room.ensures pushed }
