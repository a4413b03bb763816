use Rattle.cal_policy.proofs.Common.{◌≡◌, ℕ, ◌<◌, ◌++◌, List, Some, slice_get, take, IsTrue, Action, fits_state, IsReady, Agrees}
use Rattle.cal_policy.proofs.judgement.orderly.step_fitting.Given as goal

abbrev pub invariant-loop-action : goal.invariant-loop-action
invariant-loop-action l = record {
  fits : (x : List Action) → Agrees l.fn.board x → (i : ℕ) → i < l.action-index → (action : Action) →
      slice_get l.actions i ≡ Some action → IsTrue (fits_state l.config (x ++ take i l.actions) action);
  agrees : (x : List Action) → Agrees l.fn.board x → Agrees l.board (x ++ take l.action-index l.actions);
  ready : IsReady l.config l.board;
  keeping : l.board.keeping ≡ l.fn.board.keeping;
}
