use Rattle.cal_input.proofs.LinesOf.{Found}
use Rattle.cal_input.proofs.separator.split_input.Given as goal

abbrev pub invariant-loop-at : goal.invariant-loop-at
invariant-loop-at l = Found l.text l.start l.at
