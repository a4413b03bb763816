use Rattle.cal_load.proofs.Common.{◌≡◌, ◌≤◌, ◌+◌, ℕ, All, length, take, AreBuilt, HasMoreFor, IsQueue, slots_in}
use Rattle.cal_load.proofs.requests.put_queues.Given as goal

abbrev pub invariant-loop-place : goal.invariant-loop-place
invariant-loop-place l = record {
  built : (threads turns : ℕ) → AreBuilt threads turns l.first l.initial.requests.items → l.first + length l.queues ≤ threads → All (IsQueue turns) l.queues
      → AreBuilt threads turns (l.first + l.place) l.requests.items;
  own : HasMoreFor l.first (l.first + l.place) l.misses l.initial.requests.items l.requests.items;
  many : length l.requests.items ≡ length l.initial.requests.items + slots_in (take l.place l.queues);
}
