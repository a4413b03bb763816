use Rattle.cal_paced.proofs.Common.{◌≡◌, ◌≤◌, ◌*◌, take, misses_of}
use Rattle.cal_signal.specs.declared.record.TheConstants.{MOST_MISSES}
use Rattle.cal_paced.proofs.rounds.misses_shown.Given as goal

-- what the first threads show
abbrev pub invariant-loop-worker : goal.invariant-loop-worker
invariant-loop-worker l = record {
  shown : l.misses ≡ misses_of (take l.worker-index l.workers);
  few : l.misses ≤ l.worker-index * MOST_MISSES;
}
