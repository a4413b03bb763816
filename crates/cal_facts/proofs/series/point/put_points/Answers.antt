use Rattle.cal_facts.proofs.Common.{◌≡◌, ◌∙◌, ◌++◌, ◌∷◌, [], ℕ, List, length, ap, refl, arith, add-one, append_assoc, points_below, point_of, Point}
use Rattle.cal_facts.proofs.series.point.put_points.Goals as goal

pub loop-task-preserved : goal.loop-task-preserved
loop-task-preserved c = λ before entry at.
    let table = c.args.config.now in
    let t = c.loop-task.task in
    let was = c.loop-task.points.items in
    let old = c.args.points.now.items in
    let one : c.point_of-point.result ≡ point_of table before entry t = c.point_of-point.ensures before entry at in
    c.in_ok-push.ensures.items
    ∙ ap (λ (l : List Point). l ++ c.point_of-point.result ∷ []) (c.loop-task.invariant before entry at)
    ∙ ap (λ (p : Point). (old ++ points_below table before entry t) ++ p ∷ []) one
    ∙ append_assoc old (points_below table before entry t) (point_of table before entry t ∷ [])
    ∙ rw (add-one t) refl

pub returns : goal.returns
returns c = λ before entry at.
    let table = c.args.config.now in
    let past = c.loop-task-test.false in
    let end = c.loop-task.auto.task-end in
    let count = c.tasks-task-end.ensures.count in
    let all : c.loop-task.task ≡ length table.tasks = omega (arith, past, end, count) in
    c.loop-task.invariant before entry at ∙ ap (λ (n : ℕ). c.args.points.now.items ++ points_below table before entry n) all
