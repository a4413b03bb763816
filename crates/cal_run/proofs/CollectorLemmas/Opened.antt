-- Before the first round nothing was made.
use Rattle.cal_run.proofs.Common.{◌≡◌, ℕ, zero, suc, ⊎_elim, sym, List, [], ◌∷◌, ◌++◌, Some, length, map, replicate, refl, ◌∙◌, arith, AllZip, slice_get, Entry, SchedulerView, IsTallyOf, Arrivals, NONE, figures_of, HasPassed, HaveMade, journals_of, Worker, last_or_before}
use Rattle.cal_run.specs.Collecting.{AreEmpty}

-- a list of which nothing is made is empty
none_made : {X Y : Type 0} (f : X → Y) (xs : List X) → map f xs ≡ [] → xs ≡ []
none_made f [] none = refl
none_made f (x ∷ xs) none = absurd (cc)

pub no_pass_yet : (arrivals : Arrivals) (scheduler : SchedulerView) → HasPassed arrivals 0 scheduler → scheduler.history ≡ []
no_pass_yet arrivals scheduler passed = none_made figures_of scheduler.history passed

-- the journals of threads that made no turn are empty
pub no_turn_yet : (arrivals : Arrivals) (workers : List Worker) → HaveMade arrivals 0 workers → AreEmpty (journals_of workers)
no_turn_yet arrivals workers made = go workers 0 (λ k worker at. (made k worker at).turns)
  where
    go : (ws : List Worker) (n : ℕ) → ((k : ℕ) (worker : Worker) → slice_get ws k ≡ Some worker → worker.thread.journal ≡ []) → AreEmpty (journals_of ws)
    go [] n empty k journal at = absurd (cc)
    go (w ∷ ws) n empty zero journal at = let same : w.thread.journal ≡ journal = cc in let none = empty 0 w refl in cc
    go (w ∷ ws) n empty (suc k) journal at = go ws n (λ i worker there. empty (suc i) worker there) k journal at

pub none_empty : AreEmpty []
none_empty k journal at = absurd (cc)

pub one_empty_more : (journals : List (List Entry)) (journal : List Entry) → AreEmpty journals → journal ≡ [] → AreEmpty (journals ++ journal ∷ [])
one_empty_more journals journal empty none k other at = ⊎_elim
    (λ before. empty k other before.1)
    (λ last. sym last.1 ∙ none)
    (last_or_before journals journal other k at)

-- as many empty journals are the same
pub same_empty : (xs ys : List (List Entry)) → length xs ≡ length ys → AreEmpty xs → AreEmpty ys → xs ≡ ys
same_empty [] [] many a b = refl
same_empty [] (y ∷ ys) many a b = absurd (omega (arith, many))
same_empty (x ∷ xs) [] many a b = absurd (omega (arith, many))
same_empty (x ∷ xs) (y ∷ ys) many a b =
    let first : x ≡ [] = a 0 x refl in
    let other : y ≡ [] = b 0 y refl in
    let rest : xs ≡ ys = same_empty xs ys (omega (arith, many)) (λ k j at. a (suc k) j at) (λ k j at. b (suc k) j at) in
    cc

pub all_empty : (journals : List (List Entry)) (n : ℕ) → length journals ≡ n → AreEmpty journals → replicate n [] ≡ journals
all_empty [] zero many empty = refl
all_empty [] (suc n) many empty = absurd (omega (arith, many))
all_empty (j ∷ js) zero many empty = absurd (omega (arith, many))
all_empty (j ∷ js) (suc n) many empty =
    let first : j ≡ [] = empty 0 j refl in
    let rest : replicate n [] ≡ js = all_empty js n (omega (arith, many)) (λ k journal at. empty (suc k) journal at) in
    cc

-- and nothing is counted of them
pub none_counted : (journals : List (List Entry)) (n : ℕ) → length journals ≡ n → AreEmpty journals → AllZip IsTallyOf journals (replicate n NONE)
none_counted [] zero many empty = tt
none_counted [] (suc n) many empty = absurd (omega (arith, many))
none_counted (j ∷ js) zero many empty = absurd (omega (arith, many))
none_counted (j ∷ js) (suc n) many empty =
    let none : j ≡ [] = empty 0 j refl in (
      rw none (record { taken = refl; published = refl; served = refl }),
      none_counted js n (omega (arith, many)) (λ k journal at. empty (suc k) journal at),
    )
