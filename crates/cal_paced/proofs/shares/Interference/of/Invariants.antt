use Rattle.cal_paced.proofs.Common.{◌≡◌, ◌≤◌, ◌*◌, ◌&&◌, not, ℕ, map, take, nat_lt, has, MOST_CORES, Worker, all_bring, is_beside_work}
use Rattle.cal_paced.proofs.shares.Interference.of.Given as goal

-- what the first threads mean
abbrev pub invariant-loop-worker : goal.invariant-loop-worker
invariant-loop-worker l = record {
  clear : (core : ℕ) → has l.clear core ≡ (nat_lt core MOST_CORES && not (is_beside_work (take l.worker-index (map (λ (w : Worker). w.thread) l.workers)) core));
  brought : l.brought ≡ all_bring (take l.worker-index (map (λ (w : Worker). w.thread) l.workers));
  few : l.brought ≤ l.worker-index * 18446744073709551615;
}
