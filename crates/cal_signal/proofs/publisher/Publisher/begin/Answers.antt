use Rattle.std.proofs.Common.{rules, arith}
use Rattle.cal_signal.proofs.PageSteps.{publishes_of, opens}
use Rattle.cal_signal.proofs.publisher.Publisher.begin.Goals as goal

pub store-requires : goal.store-requires
store-requires c = let v = c.self.invariant.version in (search rules, search rules, opens _ _ _ _ (publishes_of c.self.inside.seat.me.0 c.self.invariant.part) (omega arith) (omega arith))
