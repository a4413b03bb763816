use Rattle.cal_signal.proofs.Common.{rules, ◌<◌, ◌≤◌, length, ap, sym, ◌∙◌, arith, length-take-le, words_of}
use Rattle.cal_signal.proofs.PageSteps.{publishes_of, writes}
use Rattle.cal_signal.proofs.publication.OpenPage.store_next.Goals as goal

pub store-requires : goal.store-requires
store-requires c = let v = c.self.invariant.version in let some_left : c.self.inside.count < 9 = search rules in (
  search rules,
  search rules,
  writes _ _ _ _ _ (publishes_of c.self.inside.seat.me.0 c.self.invariant.part) (omega arith)
      (let room : c.self.inside.count ≤ length (words_of c.self.inside.pending) = omega arith in sym (ap length c.self.invariant.stored ∙ length-take-le c.self.inside.count (words_of c.self.inside.pending) room)) some_left,
)
