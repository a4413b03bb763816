use Rattle.cal_measure.proofs.Common.{◌<◌, ◌+◌, ◌^◌, ◌++◌, ◌∷◌, [], List, length, Agrees, Action, AreActionsOf, EachTask}
use Rattle.cal_measure.proofs.EachTaskLemmas.{AreUpTo}
use Rattle.cal_measure.proofs.walk.each_task.count_each.Given as goal

abbrev pub invariant-loop-task : goal.invariant-loop-task
invariant-loop-task l = (x : List Action) → length x + 1 < 2 ^ 64 → Agrees l.board x →
    EachTask (λ t of_task. AreActionsOf l.config t x of_task) l.initial.numbers →
    AreUpTo (λ t of_task. AreActionsOf l.config t x of_task) (λ t of_task. AreActionsOf l.config t (x ++ l.action ∷ []) of_task) l.task l.numbers
