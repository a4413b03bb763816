use Rattle.cal_measure.proofs.Common.{◌≡◌, ◌<◌, ◌^◌, ◌++◌, List, length, take, Action, IsReady, Agrees, AreActionsOf, EachTask}
use Rattle.cal_measure.proofs.walk.each_task.count_actions_of_each.Given as goal

abbrev pub invariant-loop-action : goal.invariant-loop-action
invariant-loop-action l = record {
  agrees : (x : List Action) → Agrees l.fn.board x → Agrees l.board (x ++ take l.action-index l.actions);
  ready : IsReady l.config l.board;
  keeping : l.board.keeping ≡ l.fn.board.keeping;
  many : length l.numbers ≡ length l.fn.numbers;
  numbers : (x : List Action) → length (x ++ l.actions) < 2 ^ 64 → Agrees l.fn.board x →
      EachTask (λ t of_task. AreActionsOf l.config t x of_task) l.fn.numbers →
      EachTask (λ t of_task. AreActionsOf l.config t (x ++ take l.action-index l.actions) of_task) l.numbers;
}
