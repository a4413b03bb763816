use Rattle.cal_policy.proofs.Common.{◌-◌, take, actions_of, looks_of, KeepsBefore, IsReady, Agrees, KeepingAgrees}
use Rattle.cal_policy.proofs.board.replay.board_of.Given as goal

abbrev pub invariant-loop-entry : goal.invariant-loop-entry
invariant-loop-entry l = record {
  agrees : Agrees l.board (actions_of (take l.entry-index l.history));
  keeping : KeepingAgrees l.board.keeping (looks_of (take l.entry-index l.history));
  before : KeepsBefore l.board.keeping (looks_of (take (l.entry-index - 1) l.history));
  ready : IsReady l.config l.board;
}
