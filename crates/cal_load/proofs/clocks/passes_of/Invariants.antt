use Rattle.cal_load.specs.Clocks.{AreAt, pass_clock}
use Rattle.cal_load.proofs.clocks.passes_of.Given as goal

abbrev pub invariant-loop-turn : goal.invariant-loop-turn
invariant-loop-turn l = AreAt l.turn (λ k. record { now = pass_clock l.timing k; bandwidth = 0 }) l.passes.items
