-- Rows written one after the other.
use Rattle.cal_facts.proofs.Common.{◌<◌, ◌+◌, ◌∙◌, ℕ, List, Option, length, take, get_or, sym, ap, subst, Appends-trans, take_more, Appends, flat_map}
use Rattle.cal_trace.proofs.ListLemmas.Numbered.{flat_map-one}

pub one_more_line : {X : Type 0} → (f : X → List ℕ) (a b c : Option (List ℕ)) (xs : List X) (i : ℕ) (d : X) → i < length xs
    → Appends a b (flat_map f (take i xs)) → Appends b c (f (get_or xs i d)) → Appends a c (flat_map f (take (i + 1) xs))
one_more_line f a b c xs i d lt p q =
    let e = ap (flat_map f) (take_more xs i d lt) ∙ flat_map-one f (take i xs) (get_or xs i d) in
    subst (λ (t : List ℕ). Appends a c t) (sym e) (Appends-trans a b c _ _ p q)
