use Rattle.cal_paced.proofs.Differing.{FiguredUpTo}
use Rattle.cal_paced.proofs.rounds.set_figures.Given as goal

-- the first of these passes got the figure, and nothing else changed
abbrev pub invariant-loop-p : goal.invariant-loop-p
invariant-loop-p l = FiguredUpTo l.first l.p l.figure l.initial.passes.items l.passes.items
