use Rattle.cal_load.proofs.Common.{◌≡◌, ◌<◌, ◌+◌, ℕ, length, take, AreBuilt, AreBuiltTo, HasMoreFor, IsQueue}
use Rattle.cal_load.proofs.Built.{end_of}
use Rattle.cal_load.proofs.requests.put_queue.Given as goal

-- all before the turn after the last one
abbrev pub invariant-loop-place : goal.invariant-loop-place
invariant-loop-place l = record {
  built : (threads turns : ℕ) → AreBuilt threads turns l.thread l.initial.requests.items → l.thread < threads → IsQueue turns l.queue
      → AreBuiltTo threads turns l.thread (end_of (take l.place l.queue.slots.items)) l.requests.items;
  own : HasMoreFor l.thread (l.thread + 1) l.misses l.initial.requests.items l.requests.items;
  many : length l.requests.items ≡ length l.initial.requests.items + l.place;
}
