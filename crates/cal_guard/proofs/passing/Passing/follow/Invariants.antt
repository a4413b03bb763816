use Rattle.cal_guard.proofs.Common.{◌≡◌, ◌+◌, List, ◌++◌, take, Action, Setting, IsReady, IsAfter}
use Rattle.cal_guard.proofs.passing.Passing.follow.Given as goal

abbrev pub invariant-loop-permitted : goal.invariant-loop-permitted
invariant-loop-permitted l = record {
  after : (s : Setting) (acts : List Action) → IsAfter l.fn.self s acts → IsAfter l.self s (acts ++ take l.permitted-index l.actions);
  made : l.self.made ≡ l.fn.self.made + l.permitted-index;
  ready : IsReady l.config l.self.board;
}
