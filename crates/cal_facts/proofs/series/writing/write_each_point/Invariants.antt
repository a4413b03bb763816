use Rattle.cal_facts.proofs.Common.{take, Appends, flat_map, point_line}
use Rattle.cal_facts.proofs.series.writing.write_each_point.Given as goal

abbrev pub invariant-loop-point : goal.invariant-loop-point
invariant-loop-point g l =
    Appends (g.W.Write.contents l.initial.writer) (g.W.Write.contents l.writer) (flat_map (point_line l.config) (take l.point-index l.points))
