-- The threads of a run, one after the other.
use Rattle.cal_run.proofs.Common.{◌≡◌, ℕ, ◌+◌, ◌<◌, ◌≤◌, ◌⊎◌, inl, inr, ⊎_elim, zero, suc, List, [], ◌∷◌, ◌++◌, length, map, Some, refl, sym, ap, subst, ◌∙◌, arith, slice_get, set, cases_lt, slice_get_within, last_or_before, Arrivals, HasMade, HaveMade, seat_of, seats_of, Worker}

-- a place of a list one of whose members was changed
get_set : {X : Type 0} (xs : List X) (k i : ℕ) (y z : X) → slice_get (set xs k y) i ≡ Some z → ((i ≡ k) × (z ≡ y)) ⊎ ((i ≡ k → ⊥) × (slice_get xs i ≡ Some z))
get_set [] k i y z e = absurd (cc)
get_set (x ∷ xs) zero zero y z e = inl (refl, (cc))
get_set (x ∷ xs) zero (suc i) y z e = inr ((λ same. absurd (omega (arith, same))), e)
get_set (x ∷ xs) (suc k) zero y z e = inr ((λ same. absurd (omega (arith, same))), e)
get_set (x ∷ xs) (suc k) (suc i) y z e = ⊎_elim
    (λ same. inl (ap suc same.0, same.1))
    (λ other. inr ((λ same. other.0 (omega (arith, same))), other.1))
    (get_set xs k i y z e)

-- what a function gives of the members stays where it gives the same of the one that changed
map_set : {X Y : Type 0} (f : X → Y) (xs : List X) (k : ℕ) (x y : X) → slice_get xs k ≡ Some x → f y ≡ f x → map f (set xs k y) ≡ map f xs
map_set f [] k x y at same = refl
map_set {X} {Y} f (z ∷ xs) zero x y at same = let e : z ≡ x = cc in ap (λ (w : Y). w ∷ map f xs) (same ∙ ap f (sym e))
map_set {X} {Y} f (z ∷ xs) (suc k) x y at same = ap (λ (ws : List Y). f z ∷ ws) (map_set f xs k x y at same)

-- the first k threads have made turn j too, the others have not; and each keeps what it keeps over its turns
pub record TurnedUpTo (arrivals : Arrivals) (j k : ℕ) (before workers : List Worker) : Type 0 where
  pub done : (i : ℕ) (worker : Worker) → i < k → slice_get workers i ≡ Some worker → HasMade arrivals i (j + 1) worker
  pub left : (i : ℕ) (worker : Worker) → k ≤ i → slice_get workers i ≡ Some worker → HasMade arrivals i j worker
  pub same : seats_of workers ≡ seats_of before

pub none_turned : (arrivals : Arrivals) (j : ℕ) (workers : List Worker) → HaveMade arrivals j workers → TurnedUpTo arrivals j 0 workers workers
none_turned arrivals j workers made = record {
  done = λ i worker low at. absurd (omega (arith, low));
  left = λ i worker high at. made i worker at;
  same = refl;
}

-- the next one may make the turn
pub may_turn : (arrivals : Arrivals) (j k : ℕ) (before workers : List Worker) (worker : Worker) → TurnedUpTo arrivals j k before workers → slice_get workers k ≡ Some worker →
    HasMade arrivals worker.number j worker
may_turn arrivals j k before workers worker so_far at =
    let own = so_far.left k worker (omega arith) at in
    let P : ℕ → Type 0 = λ n. HasMade arrivals n j worker in
    subst P (sym own.number) own

-- and then it has
pub one_turned : (arrivals : Arrivals) (j k : ℕ) (before workers : List Worker) (was is : Worker) → TurnedUpTo arrivals j k before workers → slice_get workers k ≡ Some was →
    HasMade arrivals was.number (j + 1) is → seat_of is.thread ≡ seat_of was.thread → TurnedUpTo arrivals j (k + 1) before (set workers k is)
one_turned arrivals j k before workers was is so_far at made kept = record {
  done = λ i worker low e. done i worker low (get_set workers k i is worker e);
  left = λ i worker high e. left i worker high (get_set workers k i is worker e);
  same = map_set (λ (w : Worker). seat_of w.thread) workers k was is at kept ∙ so_far.same;
}
  where
    its : HasMade arrivals k (j + 1) is
    its = let P : ℕ → Type 0 = λ n. HasMade arrivals n (j + 1) is in subst P (so_far.left k was (omega arith) at).number made

    done : (i : ℕ) (worker : Worker) → i < k + 1 → ((i ≡ k) × (worker ≡ is)) ⊎ ((i ≡ k → ⊥) × (slice_get workers i ≡ Some worker)) → HasMade arrivals i (j + 1) worker
    done i worker low (inl same) =
        let P : ℕ → Type 0 = λ n. HasMade arrivals n (j + 1) worker in
        let Q : Worker → Type 0 = λ w. HasMade arrivals k (j + 1) w in
        subst P (sym same.0) (subst Q (sym same.1) its)
    done i worker low (inr other) = ⊎_elim (λ less. so_far.done i worker less other.1)
        (λ more. absurd (other.0 (omega (arith, low, more)))) (cases_lt i k)

    left : (i : ℕ) (worker : Worker) → k + 1 ≤ i → ((i ≡ k) × (worker ≡ is)) ⊎ ((i ≡ k → ⊥) × (slice_get workers i ≡ Some worker)) → HasMade arrivals i j worker
    left i worker high (inl same) = let e = same.0 in absurd (omega (arith, e, high))
    left i worker high (inr other) = so_far.left i worker (omega (arith, high)) other.1

pub all_turned : (arrivals : Arrivals) (j k : ℕ) (before workers : List Worker) → TurnedUpTo arrivals j k before workers → length workers ≤ k → HaveMade arrivals (j + 1) workers
all_turned arrivals j k before workers so_far end i worker at =
    so_far.done i worker (let low = slice_get_within workers i worker at in omega (arith, low, end)) at

-- one thread more, with the next number
pub one_more : (arrivals : Arrivals) (j : ℕ) (workers : List Worker) (worker : Worker) → HaveMade arrivals j workers → HasMade arrivals (length workers) j worker →
    HaveMade arrivals j (workers ++ worker ∷ [])
one_more arrivals j workers worker made its i other e = go (last_or_before workers worker other i e)
  where
    go : ((i < length workers) × (slice_get workers i ≡ Some other)) ⊎ ((i ≡ length workers) × (worker ≡ other)) → HasMade arrivals i j other
    go (inl was) = made i other was.1
    go (inr same) =
        let P : ℕ → Type 0 = λ n. HasMade arrivals n j other in
        let Q : Worker → Type 0 = λ w. HasMade arrivals (length workers) j w in
        subst P (sym same.0) (subst Q same.1 its)
