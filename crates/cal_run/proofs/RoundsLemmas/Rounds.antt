-- The rounds of a run on one thread, one after the other.
use Rattle.cal_run.proofs.Common.{◌≡◌, ℕ, ◌+◌, ◌≤◌, List, length, refl, sym, ap, subst, arith, max, min, Table, Arrivals, MayBeEnded, AreOfOneTeam, AreParts, HasPassed, SchedulerSeat, WatchSeat, rounds_of, scheduler_seat_of, watch_seat_of, HaveMade, Seat, seats_of, Parts, Worker}
use Rattle.cal_run.specs.Rounds.{AreAfterRounds}

-- the same counts, written in another way
with_counts : (table : Table) (arrivals : Arrivals) (parts : Parts) (p q j k r s : ℕ) → p ≡ q → j ≡ k → r ≡ s → AreParts table arrivals p j r parts →
    AreParts table arrivals q k s parts
with_counts table arrivals parts p q j k r s pq jk rs are =
    let P : ℕ → Type 0 = λ n. AreParts table arrivals n j r parts in
    let J : ℕ → Type 0 = λ n. AreParts table arrivals q n r parts in
    let R : ℕ → Type 0 = λ n. AreParts table arrivals q k n parts in
    subst R rs (subst J jk (subst P pq are))

pub turns_counted : (arrivals : Arrivals) (workers : List Worker) (j k : ℕ) → j ≡ k → HaveMade arrivals j workers → HaveMade arrivals k workers
turns_counted arrivals workers j k same made = let P : ℕ → Type 0 = λ n. HaveMade arrivals n workers in subst P same made

pub before_rounds : (table : Table) (arrivals : Arrivals) (parts : Parts) → AreParts table arrivals 0 0 0 parts → AreAfterRounds table arrivals 0 parts
before_rounds table arrivals parts are = with_counts table arrivals parts 0 (min 0 (length arrivals.passes)) 0 (min 0 (length arrivals.turns)) 0 (min 0 parts.watch.most)
    (omega arith) (omega arith) (omega arith) are

-- one round more
pub round_more : (table : Table) (arrivals : Arrivals) (r : ℕ) (before after : Parts) → AreAfterRounds table arrivals r before →
    scheduler_seat_of after.scheduler ≡ scheduler_seat_of before.scheduler → seats_of after.workers.items ≡ seats_of before.workers.items →
    watch_seat_of after.watch ≡ watch_seat_of before.watch →
    HasPassed arrivals (min (r + 1) (length arrivals.passes)) after.scheduler → HaveMade arrivals (min (r + 1) (length arrivals.turns)) after.workers.items →
    length after.watch.rounds ≡ min (length before.watch.rounds + 1) before.watch.most → AreAfterRounds table arrivals (r + 1) after
round_more table arrivals r before after are scheduler seats watch passed made rounds = record {
  together =
      let P : SchedulerSeat → Type 0 = λ s. AreOfOneTeam table s (seats_of after.workers.items) (watch_seat_of after.watch) in
      let Q : List Seat → Type 0 = λ l. AreOfOneTeam table (scheduler_seat_of before.scheduler) l (watch_seat_of after.watch) in
      let R : WatchSeat → Type 0 = λ w. AreOfOneTeam table (scheduler_seat_of before.scheduler) (seats_of before.workers.items) w in
      subst P (sym scheduler) (subst Q (sym seats) (subst R (sym watch) are.together));
  passes = passed;
  turns = made;
  rounds = let was = are.rounds in let most = ap (λ (w : WatchSeat). w.most) watch in omega (arith, rounds, was, most);
}

-- the table of the scheduler is that of the parts
pub with_table : (table other : Table) (arrivals : Arrivals) (n : ℕ) (parts : Parts) → table ≡ other → AreAfterRounds table arrivals n parts → AreAfterRounds other arrivals n parts
with_table table other arrivals n parts same are = let P : Table → Type 0 = λ t. AreAfterRounds t arrivals n parts in subst P same are

-- after its last round all passes and turns are made, and all rounds of the watch that are no more than passes
pub after_all_rounds : (table other : Table) (arrivals : Arrivals) (m : ℕ) (parts : Parts) → table ≡ other → parts.watch.most ≡ m → m ≤ rounds_of arrivals →
    AreAfterRounds table arrivals (max (length arrivals.passes) (length arrivals.turns)) parts →
    AreParts other arrivals (length arrivals.passes) (length arrivals.turns) m parts
after_all_rounds table other arrivals m parts same most few are =
    let P : Table → Type 0 = λ t. AreParts t arrivals (length arrivals.passes) (length arrivals.turns) m parts in
    subst P same (with_counts table arrivals parts _ (length arrivals.passes) _ (length arrivals.turns) _ m
    (omega arith) (omega arith) (omega (arith, most, few)) are)

-- where so many rounds are made, no more than a run has
pub may_be_ended : (table : Table) (arrivals : Arrivals) (m : ℕ) (parts : Parts) → m ≤ rounds_of arrivals →
    AreParts table arrivals (length arrivals.passes) (length arrivals.turns) m parts → MayBeEnded table arrivals parts
may_be_ended table arrivals m parts few are = record {
  are = with_counts table arrivals parts _ _ _ _ m (length parts.watch.rounds) refl refl (sym are.rounds) are;
  few = let is = are.rounds in omega (arith, is, few);
}

-- as where the watch was opened for no round
pub unwatched_end : (table other : Table) (arrivals : Arrivals) (parts : Parts) → table ≡ other → parts.watch.most ≡ 0 →
    AreAfterRounds table arrivals (max (length arrivals.passes) (length arrivals.turns)) parts → MayBeEnded other arrivals parts
unwatched_end table other arrivals parts same none are =
    may_be_ended other arrivals 0 parts (omega arith) (after_all_rounds table other arrivals 0 parts same none (omega arith) are)
