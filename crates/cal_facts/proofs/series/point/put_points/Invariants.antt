use Rattle.cal_facts.proofs.Common.{◌≡◌, ◌++◌, List, PassEntry, IsPassAt, points_below}
use Rattle.cal_facts.proofs.series.point.put_points.Given as goal

abbrev pub invariant-loop-task : goal.invariant-loop-task
invariant-loop-task l = (before : List PassEntry) (entry : PassEntry) → IsPassAt before entry l.board l.made →
    l.points.items ≡ l.initial.points.items ++ points_below l.config before entry l.task
