use Rattle.cal_policy.proofs.Common.{◌≡◌, ℕ, ◌<◌, slice_index, kept_in}
use Rattle.cal_policy.proofs.board.records.Keeping.settle_all.Given as goal

abbrev pub invariant-loop-k : goal.invariant-loop-k
invariant-loop-k l = record {
  kept : l.self.kept ≡ l.fn.self.kept;
  numbers : l.self.numbers ≡ l.fn.self.numbers;
  unkept : l.self.unkept ≡ l.fn.self.unkept;
  waiting : l.self.waiting ≡ l.fn.self.waiting;
  settled : l.self.settled ≡ l.fn.self.settled;
  done : (j : ℕ) → j < l.k → j < 128 → slice_index l.self.before j ≡ (kept_in l.fn.self j).misses;
}
