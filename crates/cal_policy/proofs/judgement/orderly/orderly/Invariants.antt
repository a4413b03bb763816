use Rattle.cal_policy.proofs.Common.{◌≡◌, ℕ, ◌<◌, Some, slice_get, take, PassEntry, actions_of, looks_of, IsOrderlyEntry, IsReady, Agrees, KeepingAgrees}
use Rattle.cal_policy.proofs.judgement.orderly.orderly.Given as goal

abbrev pub invariant-loop-entry : goal.invariant-loop-entry
invariant-loop-entry l = record {
  entries : (p : ℕ) → p < l.entry-index → (entry : PassEntry) → slice_get l.history p ≡ Some entry → IsOrderlyEntry l.config (take p l.history) entry;
  agrees : Agrees l.board (actions_of (take l.entry-index l.history));
  keeping : KeepingAgrees l.board.keeping (looks_of (take l.entry-index l.history));
  ready : IsReady l.config l.board;
}
