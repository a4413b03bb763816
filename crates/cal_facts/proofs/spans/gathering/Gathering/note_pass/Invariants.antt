use Rattle.cal_facts.proofs.Common.{take, map, List, ◌++◌, Move, made_in, Gathers}
use Rattle.cal_facts.proofs.spans.gathering.Gathering.note_pass.Given as goal

abbrev pub invariant-loop-action : goal.invariant-loop-action
invariant-loop-action l = (moves : List Move) → Gathers l.initial.self moves → Gathers l.self (moves ++ map (made_in l.pass) (take l.action-index l.actions))
