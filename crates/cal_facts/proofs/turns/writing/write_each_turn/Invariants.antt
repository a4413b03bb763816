use Rattle.cal_facts.proofs.Common.{take, Appends, flat_map, turn_line}
use Rattle.cal_facts.proofs.turns.writing.write_each_turn.Given as goal

abbrev pub invariant-loop-work : goal.invariant-loop-work
invariant-loop-work g l =
    Appends (g.W.Write.contents l.initial.writer) (g.W.Write.contents l.writer) (flat_map (turn_line l.config) (take l.work-index l.works))
