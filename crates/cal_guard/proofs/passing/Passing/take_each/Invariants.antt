use Rattle.cal_guard.proofs.Common.{◌≡◌, ℕ, ◌+◌, ◌<◌, List, ◌++◌, take, Some, Action, Setting, Begun, setting_at, NamesTable, IsReady, IsInside, IsAfter}
use Rattle.std.proofs.Common.{slice_get}
use Rattle.cal_guard.proofs.Taking.{IsRun}
use Rattle.cal_guard.proofs.passing.Passing.take_each.Given as goal

abbrev pub invariant-loop-place : goal.invariant-loop-place
invariant-loop-place l = record {
  run : (h : Begun) (acts : List Action) → IsInside l.fn.self (setting_at l.config l.terms h) acts → IsRun (setting_at l.config l.terms h) acts l.actions l.place l.self;
  after : (s : Setting) (acts : List Action) → IsAfter l.fn.self s acts → IsAfter l.self s (acts ++ take l.place l.actions);
  follow : (i : ℕ) → i < l.place → (a : Action) → slice_get l.actions i ≡ Some a → NamesTable l.config a × (l.fn.self.made + i < 338);
  made : l.self.made ≡ l.fn.self.made + l.place;
  ready : IsReady l.config l.self.board;
}
