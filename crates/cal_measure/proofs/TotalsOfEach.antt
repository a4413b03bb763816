-- What the turns of each thread came to, thread by thread.
use Rattle.cal_measure.proofs.Common.{◌≡◌, ◌<◌, ◌≤◌, ◌+◌, ◌^◌, ◌∙◌, ℕ, zero, suc, List, [], ◌∷◌, ◌++◌, length, get_or, subst, refl, sym, ap, arith, length-append, sum, append-nil, Entry, each_of, timed_of, turns_of, stolen_by, suspensions_in, time_worked, AreTotalsOf, AreTotalsOfEach, IsWithin, IsWorkOf, ThreadTotals}
use Rattle.std.proofs.lemmas.List.Sums.{sum_by-append}
use Rattle.cal_measure.specs.declared.work.TaskWork.{TaskWork}

-- what stands at a place is of the journal there
pub totals_at : (last : ℕ) (journals : List (List Entry)) (threads : List ThreadTotals) (k : ℕ) (d : ThreadTotals) →
    AreTotalsOfEach last journals threads → k < length threads → AreTotalsOf last (get_or journals k []) (get_or threads k d)
totals_at last [] [] k d each low = absurd (omega (arith, low))
totals_at last [] (t ∷ ts) k d each low = absurd each
totals_at last (j ∷ js) [] k d each low = absurd each
totals_at last (j ∷ js) (t ∷ ts) zero d each low = each.0
totals_at last (j ∷ js) (t ∷ ts) (suc k) d each low = totals_at last js ts k d each.1 (omega (arith, low))

-- and past the last one there is no journal
pub no_totals : (last : ℕ) (journals : List (List Entry)) (threads : List ThreadTotals) (k : ℕ) →
    AreTotalsOfEach last journals threads → length threads ≤ k → get_or journals k [] ≡ []
no_totals last [] [] k each past = refl
no_totals last [] (t ∷ ts) k each past = absurd each
no_totals last (j ∷ js) [] k each past = absurd each
no_totals last (j ∷ js) (t ∷ ts) zero each past = absurd (omega (arith, past))
no_totals last (j ∷ js) (t ∷ ts) (suc k) each past = no_totals last js ts k each.1 (omega (arith, past))

pub sum_append : (xs ys : List ℕ) → sum (xs ++ ys) ≡ sum xs + sum ys
sum_append xs ys = sum_by-append (λ x. x) xs ys

-- the numbers of more work are the sums, which fit
pub more_work : (n : ℕ) (times stolen stamps times' stolen' stamps' : List ℕ) (work more all : TaskWork) → n < 128 → IsWithin n work → IsWithin 1 more →
    IsWorkOf times stolen stamps work → IsWorkOf times' stolen' stamps' more →
    (work.worked + more.worked < 2 ^ 128 → all.worked ≡ work.worked + more.worked) →
    (work.thefts + more.thefts < 2 ^ 64 → all.thefts ≡ work.thefts + more.thefts) →
    (work.suspensions + more.suspensions < 2 ^ 64 → all.suspensions ≡ work.suspensions + more.suspensions) →
    IsWorkOf (times ++ times') (stolen ++ stolen') (stamps ++ stamps') all
more_work n times stolen stamps times' stolen' stamps' work more all lt fits one are are' w t s =
    record {
      worked = let e = w (let a = fits.worked in let b = one.worked in omega (arith, a, b, lt)) in omega (arith, e, are.worked, are'.worked, sum_append times times');
      thefts = let e = t (let a = fits.thefts in let b = one.thefts in omega (arith, a, b, lt)) in omega (arith, e, are.thefts, are'.thefts, length-append stolen stolen');
      suspensions = let e = s (let a = fits.suspensions in let b = one.suspensions in omega (arith, a, b, lt)) in
          omega (arith, e, are.suspensions, are'.suspensions, length-append stamps stamps');
    }

pub more_within : (n : ℕ) (work more all : TaskWork) → IsWithin n work → IsWithin 1 more → all.worked ≤ work.worked + more.worked → all.thefts ≤ work.thefts + more.thefts →
    all.suspensions ≤ work.suspensions + more.suspensions → IsWithin (n + 1) all
more_within n work more all fits one w t s =
    record {
      worked = let a = fits.worked in let b = one.worked in omega (arith, a, b, w);
      thefts = let a = fits.thefts in let b = one.thefts in omega (arith, a, b, t);
      suspensions = let a = fits.suspensions in let b = one.suspensions in omega (arith, a, b, s);
    }

-- where there is no journal nothing comes to it
pub none_more : (last : ℕ) (journal : List Entry) (times stolen stamps : List ℕ) (work : TaskWork) → journal ≡ [] → IsWorkOf times stolen stamps work →
    IsWorkOf (times ++ each_of time_worked (timed_of last (turns_of journal))) (stolen ++ each_of stolen_by journal) (stamps ++ suspensions_in (turns_of journal)) work
none_more last journal times stolen stamps work none are =
    let P : List Entry → Type 0 = λ j. IsWorkOf (times ++ each_of time_worked (timed_of last (turns_of j))) (stolen ++ each_of stolen_by j) (stamps ++ suspensions_in (turns_of j)) work in
    subst P (sym none) (rw (append-nil times, append-nil stolen, append-nil stamps) are)

pub same_work : (times stolen stamps times' stolen' stamps' : List ℕ) (work : TaskWork) → times ≡ times' → stolen ≡ stolen' → stamps ≡ stamps' →
    IsWorkOf times stolen stamps work → IsWorkOf times' stolen' stamps' work
same_work times stolen stamps times' stolen' stamps' work t s u are =
    record {
      worked = are.worked ∙ ap (λ (l : List ℕ). sum l) t;
      thefts = are.thefts ∙ ap (λ (l : List ℕ). length l) s;
      suspensions = are.suspensions ∙ ap (λ (l : List ℕ). length l) u;
    }
