-- The least of several faults; where it is the gate's, all are.
use Rattle.std.proofs.Common.{◌≡◌, ℕ, inl, inr, ⊎_elim, List, [], ◌∷◌, ◌++◌, Option, Some, None, Result, Ok, Err, IfErr, arith, ap, subst, refl, sym, ◌∙◌}
use Rattle.std.specs.List.{Contains}
use Rattle.std.specs.Option.{unwrap_or}
use Rattle.std.proofs.lemmas.List.Elements.{Contains-append_left, Contains-push, Contains-push_cases}
use Rattle.cal_run.specs.declared.fault.SimFault.{SimFault}
use Rattle.cal_run.specs.declared.fault.SimFault.TheVariants.{Memory, Spawn, Gate}
use Rattle.cal_threads.specs.Faults.{fault_number, IsLeast, IsLeastOfAll, IsFaultOf}
use Rattle.cal_threads.specs.Gates.{EndedBy}

pub least_is_gate : (a b least : SimFault) → IsLeast a b least → least ≡ Gate → a ≡ Gate
least_is_gate Memory b least is gate = let n = ap fault_number gate in absurd (omega (arith, n, is.1))
least_is_gate Spawn b least is gate = let n = ap fault_number gate in absurd (omega (arith, n, is.1))
least_is_gate Gate b least is gate = refl

-- where the first of two results can only be a Spawn, and their fault is the gate's, the first has a value
pub both_is_gate : {A B : Type 0} (a : Result A SimFault) (b : Result B SimFault) (e : SimFault) → IfErr a (λ f. f ≡ Spawn) → IsFaultOf a b e → e ≡ Gate
    → ((x : A) × (a ≡ Ok x)) × (b ≡ Err Gate)
both_is_gate (Ok x) (Ok y) e spawn is gate = absurd is
both_is_gate (Ok x) (Err f) e spawn is gate = ((x, refl), ap Err (sym is ∙ gate))
both_is_gate (Err f) (Ok y) e spawn is gate = absurd (let n = ap fault_number (sym spawn ∙ sym is ∙ gate) in omega (arith, n))
both_is_gate (Err f) (Err h) e spawn is gate = absurd (let n = ap fault_number (sym spawn ∙ least_is_gate f h e is gate) in omega (arith, n))

-- where a worker's fault is the gate's, the gate may have refused
pub ended_by_gate : (may : Type 0) (fault : SimFault) → EndedBy may fault → fault ≡ Gate → may
ended_by_gate may fault (inl memory) gate = absurd (let n = ap fault_number (sym memory ∙ gate) in omega (arith, n))
ended_by_gate may fault (inr refused) gate = refused.1

module _ {A : Type 0} where
  -- the least fault of the results so far, where there is one
  abbrev pub IsLeastSoFar : List (Result A SimFault) → Option SimFault → Type 0
  IsLeastSoFar results None = (other : SimFault) → Contains results (Err other) → ⊥
  IsLeastSoFar results (Some fault) = IsLeastOfAll results fault

  -- a value is no fault more
  in_front : (results : List (Result A SimFault)) (x : A) (other : SimFault) → Contains (results ++ Ok x ∷ []) (Err other) → Contains results (Err other)
  in_front results x other at = ⊎_elim (λ there. there) (λ same. absurd (cc)) (Contains-push_cases results (Ok x) (Err other) at)

  pub least_with_value : (results : List (Result A SimFault)) (fault : Option SimFault) (x : A) → IsLeastSoFar results fault → IsLeastSoFar (results ++ Ok x ∷ []) fault
  least_with_value results None x none = λ other at. none other (in_front results x other at)
  least_with_value results (Some fault) x least = record {
    one = Contains-append_left results _ _ least.one;
    none_less = λ other at. least.none_less other (in_front results x other at);
  }

  -- the number of the fault of a result that has one
  abbrev number_in : Result A SimFault → ℕ
  number_in (Ok x) = 0
  number_in (Err fault) = fault_number fault

  -- a fault more
  pub least_with_fault : (results : List (Result A SimFault)) (fault : Option SimFault) (next least : SimFault) → IsLeastSoFar results fault → IsLeast next (unwrap_or fault next) least →
      IsLeastSoFar (results ++ Err next ∷ []) (Some least)
  least_with_fault results None next least none is =
      let same : least ≡ next = ⊎_elim (λ e. e) (λ e. e) is.0 in record {
        one = subst (λ (f : SimFault). Contains (results ++ Err next ∷ []) (Err f)) (sym same) (Contains-push results (Err next));
        none_less = λ other at. ⊎_elim
            (λ there. absurd (none other there))
            (λ e. let n = ap fault_number same in let m : fault_number next ≡ fault_number other = ap number_in e in omega (arith, n, m))
            (Contains-push_cases results (Err next) (Err other) at);
      }
  least_with_fault results (Some fault) next least was is = record {
    one = ⊎_elim
        (λ e. subst (λ (f : SimFault). Contains (results ++ Err next ∷ []) (Err f)) (sym e) (Contains-push results (Err next)))
        (λ e. Contains-append_left results _ _ (subst (λ (f : SimFault). Contains results (Err f)) (sym e) was.one))
        is.0;
    none_less = λ other at. ⊎_elim
        (λ there. let low = was.none_less other there in let n = is.1 in omega (arith, low, n))
        (λ e. let m : fault_number next ≡ fault_number other = ap number_in e in let n = is.1 in omega (arith, m, n))
        (Contains-push_cases results (Err next) (Err other) at);
  }
