use Rattle.cal_policy.proofs.Common.{◌≡◌, List, length, take, IsStateAfter, IsOfFound, threads_of_table, PassEntry}
use Rattle.cal_policy.proofs.board.Board.input.Given as goal

abbrev pub invariant-loop-one : goal.invariant-loop-one
invariant-loop-one l = record {
  threads : l.lists.threads ≡ threads_of_table l.config;
  size : length l.lists.seen ≡ l.one-index;
  found : (h : List PassEntry) → IsStateAfter l.self h → IsOfFound l.config h (take l.one-index l.found) l.lists;
}
