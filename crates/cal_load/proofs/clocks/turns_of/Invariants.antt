use Rattle.cal_load.specs.Clocks.{AreAt, turn_clock}
use Rattle.cal_load.proofs.clocks.turns_of.Given as goal

abbrev pub invariant-loop-turn : goal.invariant-loop-turn
invariant-loop-turn l = AreAt l.turn (turn_clock l.timing) l.turns.items
