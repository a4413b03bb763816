use Rattle.cal_policy.proofs.Common.{◌≡◌, ℕ, ◌-◌, ◌<◌, ◌≤◌, slice_index, kept_in}
use Rattle.cal_policy.proofs.board.records.Keeping.settle.Given as goal

abbrev pub invariant-loop-k : goal.invariant-loop-k
invariant-loop-k l = record {
  kept : l.self.kept ≡ l.fn.self.kept;
  numbers : l.self.numbers ≡ l.fn.self.numbers;
  unkept : l.self.unkept ≡ l.fn.self.unkept;
  moved : l.self.moved ≡ l.fn.self.moved;
  waiting : l.self.waiting ≡ l.fn.self.waiting;
  settled : l.self.settled ≡ l.fn.self.settled;
  done : (j : ℕ) → j < l.first → j < 128 → slice_index l.self.before j ≡ (kept_in l.fn.self j).misses;
  left : (j : ℕ) → l.first ≤ j → slice_index l.self.before j ≡ slice_index l.fn.self.before j;
}

abbrev pub decreases-loop-k : goal.decreases-loop-k
decreases-loop-k l = 128 - l.first
