use Rattle.cal_policy.proofs.Common.{◌≡◌, ◌++◌, List, take, Action, IsReady, Agrees}
use Rattle.cal_policy.proofs.board.replay.step_each.Given as goal

abbrev pub invariant-loop-action : goal.invariant-loop-action
invariant-loop-action l = record {
  agrees : (x : List Action) → Agrees l.fn.board x → Agrees l.board (x ++ take l.action-index l.actions);
  ready : IsReady l.config l.board;
  keeping : l.board.keeping ≡ l.fn.board.keeping;
}
