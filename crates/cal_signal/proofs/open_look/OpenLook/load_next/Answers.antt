use Rattle.cal_signal.proofs.Common.{rules, ◌<◌, ◌≤◌, length, ap, sym, ◌∙◌, arith, length-take-le}
use Rattle.cal_signal.proofs.PageSteps.{peeks}
use Rattle.cal_signal.proofs.open_look.OpenLook.load_next.Goals as goal

pub load-requires : goal.load-requires
load-requires c = let some_left : c.self.inside.count < 9 = search rules in let wide = c.self.invariant.wide in (
  search rules,
  search rules,
  peeks _ _ _ _ (let room : c.self.inside.count ≤ length c.self.inside.words = omega arith in sym (ap length c.self.invariant.read ∙ length-take-le c.self.inside.count c.self.inside.words room)) some_left,
)
