use Rattle.cal_policy.proofs.Common.{◌≡◌, ℕ, ◌-◌, ◌<◌, ◌≤◌, slice_index, unwrap_or, KeepsSets, kept_in, shown_in, Holder, Shows}
use Rattle.cal_policy.proofs.JudgementLemmas.OpenPass.{gives_kept, gives_shown}
use Rattle.cal_policy.proofs.board.records.Keeping.look_noted.Given as goal

abbrev pub invariant-loop-k : goal.invariant-loop-k
invariant-loop-k l = record {
  kept_done : (j : ℕ) → j < l.first → j < 128 → kept_in l.self j ≡ unwrap_or (gives_kept l.pass j) (kept_in l.fn.self j);
  kept_left : (j : ℕ) → l.first ≤ j → j < 128 → kept_in l.self j ≡ kept_in l.fn.self j;
  shown_done : (j : ℕ) → j < l.first → j < 128 → shown_in l.self j ≡ unwrap_or (gives_shown l.pass j) (shown_in l.fn.self j);
  shown_left : (j : ℕ) → l.first ≤ j → j < 128 → shown_in l.self j ≡ shown_in l.fn.self j;
  shows : (holder : ℕ → Holder) → Shows holder (kept_in l.fn.self) l.fn.unshown → Shows holder (kept_in l.self) l.unshown;
  before : (j : ℕ) → j < 128 → slice_index l.self.before j ≡ (kept_in l.fn.self j).misses;
  sets : KeepsSets l.self;
}

abbrev pub decreases-loop-k : goal.decreases-loop-k
decreases-loop-k l = 128 - l.first
