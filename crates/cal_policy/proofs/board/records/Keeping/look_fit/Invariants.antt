use Rattle.cal_policy.proofs.Common.{◌≡◌, ℕ, ◌<◌, ◌≤◌, slice_index, unwrap_or, to_keep_at, shown_at, KeepsSets, FitShown, kept_in, shown_in, Holder, Shows}
use Rattle.cal_policy.proofs.board.records.Keeping.look_fit.Given as goal

abbrev pub invariant-loop-k : goal.invariant-loop-k
invariant-loop-k l = record {
  kept_done : FitShown l.fn.self l.seen → (j : ℕ) → j < l.k → kept_in l.self j ≡ unwrap_or (to_keep_at l.seen j) (kept_in l.fn.self j);
  kept_left : FitShown l.fn.self l.seen → (j : ℕ) → l.k ≤ j → j < 128 → kept_in l.self j ≡ kept_in l.fn.self j;
  shown_done : FitShown l.fn.self l.seen → (j : ℕ) → j < l.k → shown_in l.self j ≡ unwrap_or (shown_at l.seen j) (shown_in l.fn.self j);
  shown_left : FitShown l.fn.self l.seen → (j : ℕ) → l.k ≤ j → j < 128 → shown_in l.self j ≡ shown_in l.fn.self j;
  shows : (holder : ℕ → Holder) → Shows holder (kept_in l.fn.self) l.fn.unshown → Shows holder (kept_in l.self) l.unshown;
  before : (j : ℕ) → j < 128 → slice_index l.self.before j ≡ (kept_in l.fn.self j).misses;
  sets : KeepsSets l.self;
}
