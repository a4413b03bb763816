-- Rounds that the watch of a run did not make, each with looks that read no record.
use Rattle.cal_run.proofs.Common.{◌≡◌, ℕ, ◌-◌, ◌≤◌, zero, suc, List, [], ◌∷◌, ◌++◌, length, replicate, Some, refl, sym, ap, ◌∙◌, arith, length-append, slice_get, length-replicate, Table, threads_of_table, HaveWatched, ObserverView, Look, Record, Arrivals, filled, rounds_of, unread_round}
use Rattle.std.proofs.lemmas.Grind.{flat_map-append}
use Rattle.std.proofs.lemmas.List.{append-nil}
use Rattle.cal_signal.specs.Rounds.{found_at, found_by}
use Rattle.cal_signal.specs.declared.look.Look.TheVariants.{Busy}

-- no look of an unread round is whole
nothing_read : (n k : ℕ) → found_by (slice_get (replicate n (Busy 1 1)) k) ≡ []
nothing_read zero k = refl
nothing_read (suc n) zero = refl
nothing_read (suc n) (suc k) = nothing_read n k

nothing_found : (m n k : ℕ) → found_at (replicate m (replicate n (Busy 1 1))) k ≡ []
nothing_found zero n k = refl
nothing_found (suc m) n k = ap (λ (ls : List (ℕ × Record)). ls ++ found_at (replicate m (replicate n (Busy 1 1))) k) (nothing_read n k) ∙ nothing_found m n k

-- what is added to the rounds finds nothing
same_found : (rounds : List (List Look)) (m n k : ℕ) → found_at (rounds ++ replicate m (replicate n (Busy 1 1))) k ≡ found_at rounds k
same_found rounds m n k =
    flat_map-append (λ (r : List Look). found_by (slice_get r k)) rounds (replicate m (replicate n (Busy 1 1)))
    ∙ ap (λ (ls : List (ℕ × Record)). found_at rounds k ++ ls) (nothing_found m n k)
    ∙ append-nil (found_at rounds k)

-- each round of a list of the same is the one
each_same : {X : Type 0} (P : X → Type 0) (x : X) (m i : ℕ) (y : X) → P x → slice_get (replicate m x) i ≡ Some y → P y
each_same P x zero i y p at = absurd (cc)
each_same P x (suc m) zero y p at = let same : x ≡ y = cc in rw (← same) p
each_same P x (suc m) (suc i) y p at = each_same P x m i y p at

-- each member of two lists together
each_of_both : {X : Type 0} (P : X → Type 0) (xs ys : List X) → ((i : ℕ) (x : X) → slice_get xs i ≡ Some x → P x) → ((i : ℕ) (x : X) → slice_get ys i ≡ Some x → P x) →
    (i : ℕ) (x : X) → slice_get (xs ++ ys) i ≡ Some x → P x
each_of_both P [] ys p q i x at = q i x at
each_of_both P (z ∷ xs) ys p q zero x at = p zero x at
each_of_both P (z ∷ xs) ys p q (suc i) x at = each_of_both P xs ys (λ j. p (suc j)) q i x at

pub filled_watched : (table : Table) (arrivals : Arrivals) (given observers : List ObserverView) (rounds : List (List Look)) → length observers ≡ threads_of_table table →
    HaveWatched given observers rounds → HaveWatched given observers (filled table arrivals rounds)
filled_watched table arrivals given observers rounds many watched =
    let m = rounds_of arrivals - length rounds in
    let n = threads_of_table table in
    let P : List Look → Type 0 = λ round. length round ≡ length given in
    record {
      same_many = watched.same_many;
      one_each = each_of_both P rounds (replicate m (unread_round table)) watched.one_each
          (λ i round. each_same P (unread_round table) m i round (length-replicate n (Busy 1 1) ∙ sym many ∙ watched.same_many));
      each = λ k was is e f.
          let its = watched.each k was is e f in
          (its.0, its.1 ∙ ap (λ (ls : List (ℕ × Record)). was.looks ++ ls) (sym (same_found rounds m n k)));
    }

-- and so there are as many as a run has
pub many_filled : (table : Table) (arrivals : Arrivals) (rounds : List (List Look)) → length rounds ≤ rounds_of arrivals → length (filled table arrivals rounds) ≡ rounds_of arrivals
many_filled table arrivals rounds few =
    let m = rounds_of arrivals - length rounds in
    let both = length-append rounds (replicate m (unread_round table)) in
    let others = length-replicate m (unread_round table) in
    omega (arith, both, others, few)

-- where all were made, nothing is added
pub filled_whole : (table : Table) (arrivals : Arrivals) (rounds : List (List Look)) → length rounds ≡ rounds_of arrivals → filled table arrivals rounds ≡ rounds
filled_whole table arrivals rounds all =
    let none : rounds_of arrivals - length rounds ≡ 0 = omega (arith, all) in
    ap (λ (m : ℕ). rounds ++ replicate m (unread_round table)) none ∙ append-nil rounds
