-- The kernel threads of a run, before and after their turns.
use Rattle.std.proofs.Common.{◌≡◌, ◌<◌, ℕ, ◌+◌, Bool, suc, List, ◌∷◌, Some, length, arith, subst, sym, ap, ◌∙◌}
use Rattle.std.specs.List.{AllZip, slice_get}
use Rattle.cal_trace.specs.declared.arrivals.Arrivals.{Arrivals}
use Rattle.cal_run.specs.Workers.{HasMade, HaveMade, seat_of, seats_of}
use Rattle.cal_run.specs.declared.workers.worker.Worker.{Worker}
use Rattle.cal_threads.specs.Gates.{LetsTurns}
use Rattle.cal_threads.specs.Promises.{HasMadeTurns, IsPromiseKept, IsOf}
use Rattle.cal_threads.specs.declared.kernel_threads.Turned.{Turned}
use Rattle.cal_threads.proofs.Pairs.{pairs_at, pairs_map, pairs_place}

-- each of these threads, the first of which is thread k, has made j turns
pub record HaveMadeFrom (arrivals : Arrivals) (k j : ℕ) (workers : List Worker) : Type 0 where
  pub at : (i : ℕ) (worker : Worker) → slice_get workers i ≡ Some worker → HasMade arrivals (k + i) j worker

pub from_the_first : (arrivals : Arrivals) (k j : ℕ) (workers : List Worker) → k ≡ 0 → HaveMade arrivals j workers → HaveMadeFrom arrivals k j workers
from_the_first arrivals k j workers none made = record {
  at = λ i worker at.
      let P : ℕ → Type 0 = λ n. HasMade arrivals n j worker in
      let same : i ≡ k + i = omega (arith, none) in
      subst P same (made i worker at);
}

-- the first of them
pub first_of_rest : (arrivals : Arrivals) (k j : ℕ) (worker : Worker) (rest workers : List Worker) → workers ≡ worker ∷ rest → HaveMadeFrom arrivals k j workers → HasMade arrivals k j worker
first_of_rest arrivals k j worker rest workers is made =
    let P : ℕ → Type 0 = λ n. HasMade arrivals n j worker in
    let same : k + 0 ≡ k = omega arith in
    let first = ap (λ (ws : List Worker). slice_get ws 0) is in
    subst P same (made.at 0 worker first)

-- and those after it
pub rest_of_rest : (arrivals : Arrivals) (k n j : ℕ) (worker : Worker) (rest workers : List Worker) → workers ≡ worker ∷ rest → n ≡ k + 1 → HaveMadeFrom arrivals k j workers → HaveMadeFrom arrivals n j rest
rest_of_rest arrivals k n j worker rest workers is next made = record {
  at = λ i other at.
      let P : ℕ → Type 0 = λ m. HasMade arrivals m j other in
      let same : k + suc i ≡ n + i = omega (arith, next) in
      let there = ap (λ (ws : List Worker). slice_get ws (suc i)) is ∙ at in
      subst P same (made.at (suc i) other there);
}

-- each made all its turns, and so did the threads of the run
pub all_made : (arrivals : Arrivals) (before after : List Worker) → HaveMade arrivals 0 before → AllZip (λ was is. HasMadeTurns arrivals was.number was is) before after →
    HaveMade arrivals (length arrivals.turns) after
all_made arrivals before after none pairs k worker at =
    let was = pairs_place _ before after pairs k worker at in
    let P : ℕ → Type 0 = λ n. HasMade arrivals n (length arrivals.turns) worker in
    subst P (none k was.0 was.1).number was.2.turns

pub all_seated : (arrivals : Arrivals) (before after : List Worker) → AllZip (λ was is. HasMadeTurns arrivals was.number was is) before after → seats_of after ≡ seats_of before
all_seated arrivals before after pairs = pairs_map (λ (w : Worker). seat_of w.thread) (λ (w : Worker). seat_of w.thread) _ (λ was is made. made.seat) before after pairs

-- what keeps the promise of a kernel thread has made the turns that are given to that thread
module _ {G : Type 0} (answers : G → ℕ → ℕ → Bool → Type 0) (threads : ℕ) (arrivals : Arrivals) (gate : G) (was : Worker) (promise : Turned G) (is : Worker)
    (of : IsOf threads arrivals gate was promise) (kept : IsPromiseKept answers promise is) where
  pub kept_of : HasMadeTurns arrivals was.number was is
  kept_of =
      let P : Worker → Type 0 = λ w. HasMadeTurns promise.arrivals.now promise.k w is in
      let Q : ℕ → Type 0 = λ k. HasMadeTurns promise.arrivals.now k was is in
      let R : Arrivals → Type 0 = λ a. HasMadeTurns a was.number was is in
      subst R of.arrivals_are (subst Q (sym of.number) (subst P of.worker_is kept.turns))

  -- and the gate may have let each of them through
  pub asked_of : LetsTurns (answers gate was.number) arrivals
  asked_of =
      let P : ℕ → Type 0 = λ k. LetsTurns (answers promise.gate.now k) promise.arrivals.now in
      let Q : G → Type 0 = λ h. LetsTurns (answers h was.number) promise.arrivals.now in
      let R : Arrivals → Type 0 = λ a. LetsTurns (answers gate was.number) a in
      subst R of.arrivals_are (subst Q of.gate_is (subst P (sym of.number) kept.asked))

-- where something holds of the number of each worker, it does of each number below the count
pub of_each : {A : Type 0} (may : ℕ → Type 0) (arrivals : Arrivals) (before : List Worker) (after : List A) → HaveMade arrivals 0 before → AllZip (λ was is. may was.number) before after →
    (k : ℕ) → k < length before → may k
of_each may arrivals before after none pairs k low =
    let at = pairs_at _ before after pairs k low in
    subst may (none k at.0 at.2).number at.3
