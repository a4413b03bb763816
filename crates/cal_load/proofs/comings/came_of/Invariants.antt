use Rattle.cal_load.proofs.Common.{◌≡◌, ◌≤◌, ℕ, Some, length, map, slice_get, take, Came, clock_to, Arrival}
use Rattle.cal_load.proofs.comings.came_of.Given as goal

abbrev pub invariant-loop-place : goal.invariant-loop-place
invariant-loop-place l = record {
  many : length l.came.items ≡ l.place;
  ids : map (λ one. one.id) l.came.items ≡ map (λ arrival. arrival.request.id) (take l.place l.requests);
  turns : (i : ℕ) (one : Came) (arrival : Arrival) → slice_get l.came.items i ≡ Some one → slice_get l.requests i ≡ Some arrival → one.turn ≤ arrival.turn;
  clocks : (i : ℕ) (one : Came) → slice_get l.came.items i ≡ Some one → one.clock ≡ clock_to l.timing one.turn;
}
