-- Two lists whose members go together one by one, where the lists are of two types.
use Rattle.std.proofs.Common.{◌≡◌, ◌<◌, ℕ, List, length, [], ◌∷◌, ◌++◌, Some, map, arith, subst, refl, sym, ap, ◌∙◌, zero, suc}
use Rattle.std.specs.List.{AllZip, Contains, slice_get}

-- one more pair at the end
pub pairs_push : {A B : Type 0} (R : A → B → Type 0) (xs : List A) (ys : List B) (x : A) (y : B) → AllZip R xs ys → R x y → AllZip R (xs ++ x ∷ []) (ys ++ y ∷ [])
pairs_push R [] [] x y all here = (here, tt)
pairs_push R [] (b ∷ bs) x y all here = absurd all
pairs_push R (a ∷ as') [] x y all here = absurd all
pairs_push R (a ∷ as') (b ∷ bs) x y all here = (all.0, pairs_push R as' bs x y all.1 here)

pub pairs_pushed : {A B : Type 0} (R : A → B → Type 0) (xs : List A) (ys zs : List B) (x : A) (y : B) → AllZip R xs ys → R x y → zs ≡ ys ++ y ∷ [] → AllZip R (xs ++ x ∷ []) zs
pairs_pushed R xs ys zs x y all here is = subst (AllZip R (xs ++ x ∷ [])) (sym is) (pairs_push R xs ys x y all here)

-- two such facts in a row
pub pairs_through : {A B C : Type 0} (R : A → B → Type 0) (S : B → C → Type 0) (T : A → C → Type 0) → ((a : A) (b : B) (c : C) → R a b → S b c → T a c)
    → (xs : List A) (ys : List B) (zs : List C) → AllZip R xs ys → AllZip S ys zs → AllZip T xs zs
pairs_through R S T both [] [] [] r s = tt
pairs_through R S T both [] [] (z ∷ zs) r s = absurd s
pairs_through R S T both [] (y ∷ ys) zs r s = absurd r
pairs_through R S T both (x ∷ xs) [] zs r s = absurd r
pairs_through R S T both (x ∷ xs) (y ∷ ys) [] r s = absurd s
pairs_through R S T both (x ∷ xs) (y ∷ ys) (z ∷ zs) r s = (both x y z r.0 s.0, pairs_through R S T both xs ys zs r.1 s.1)

-- what a member of the second list goes with
pub pairs_second : {A B : Type 0} (R : A → B → Type 0) (xs : List A) (ys : List B) → AllZip R xs ys → (y : B) → Contains ys y → (x : A) × R x y
pairs_second R [] [] all y at = absurd (omega (arith, at.1))
pairs_second R [] (b ∷ bs) all y at = absurd all
pairs_second R (a ∷ as') [] all y at = absurd all
pairs_second R (a ∷ as') (b ∷ bs) all y (zero, below, is) = (a, subst (R a) is all.0)
pairs_second R (a ∷ as') (b ∷ bs) all y (suc k, below, is) = pairs_second R as' bs all.1 y (k, omega (arith, below), is)

-- what the member at a place of the second list goes with stands at the same place of the first
pub pairs_place : {A B : Type 0} (R : A → B → Type 0) (xs : List A) (ys : List B) → AllZip R xs ys → (k : ℕ) (y : B) → slice_get ys k ≡ Some y → (x : A) × (slice_get xs k ≡ Some x) × R x y
pairs_place R [] [] all k y at = absurd (cc)
pairs_place R [] (b ∷ bs) all k y at = absurd all
pairs_place R (a ∷ as') [] all k y at = absurd all
pairs_place R (a ∷ as') (b ∷ bs) all zero y at = let same : b ≡ y = cc in (a, refl, subst (R a) same all.0)
pairs_place R (a ∷ as') (b ∷ bs) all (suc k) y at = pairs_place R as' bs all.1 k y at

-- the pair at a place
pub pairs_at : {A B : Type 0} (R : A → B → Type 0) (xs : List A) (ys : List B) → AllZip R xs ys → (k : ℕ) → k < length xs → (x : A) × (y : B) × (slice_get xs k ≡ Some x) × R x y
pairs_at R [] ys all k low = absurd (omega (arith, low))
pairs_at R (a ∷ as') [] all k low = absurd all
pairs_at R (a ∷ as') (b ∷ bs) all zero low = (a, b, refl, all.0)
pairs_at R (a ∷ as') (b ∷ bs) all (suc k) low = pairs_at R as' bs all.1 k (omega (arith, low))

-- what two functions give of both members of a pair is the same
pub pairs_map : {A B C : Type 0} (f : A → C) (h : B → C) (R : A → B → Type 0) → ((a : A) (b : B) → R a b → h b ≡ f a) → (xs : List A) (ys : List B) → AllZip R xs ys → map h ys ≡ map f xs
pairs_map f h R same [] [] all = refl
pairs_map f h R same [] (b ∷ bs) all = absurd all
pairs_map f h R same (a ∷ as') [] all = absurd all
pairs_map {A} {B} {C} f h R same (a ∷ as') (b ∷ bs) all = ap (λ (c : C). c ∷ map h bs) (same a b all.0) ∙ ap (λ (cs : List C). f a ∷ cs) (pairs_map f h R same as' bs all.1)
