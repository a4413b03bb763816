use Rattle.cal_policy.proofs.Common.{◌≡◌, ◌++◌, ◌∷◌, [], List, length, take, threads_of_table, PassEntry, FoundLook, looks_of, IsOfFound, judged_looks, IsOpenAt, KeepingAgrees}
use Rattle.cal_policy.proofs.judgement.open_pass.OpenPass.input.Given as goal

abbrev pub invariant-loop-k : goal.invariant-loop-k
invariant-loop-k l = record {
  threads : l.lists.threads ≡ threads_of_table l.config;
  size : length l.lists.seen ≡ l.k;
  found : (h : List PassEntry) (found : List FoundLook) → IsOpenAt l.config h found l.self →
      KeepingAgrees l.board.keeping (looks_of h ++ judged_looks l.config h found ∷ []) → IsOfFound l.config h (take l.k found) l.lists;
}
