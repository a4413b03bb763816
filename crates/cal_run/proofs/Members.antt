-- Lists, member by member.
use Rattle.cal_run.proofs.Common.{◌≡◌, ℕ, zero, suc, List, [], ◌∷◌, length, map, Some, refl, ap, ◌∙◌, arith, slice_get, some}
use lib.ListN.{get_elem?}

-- the two ways to read a place of a list
pub both_get : {X : Type 0} (xs : List X) (i : ℕ) (x : X) → slice_get xs i ≡ Some x → get_elem? xs i ≡ some x
both_get [] i x e = absurd (cc)
both_get (y ∷ xs) zero x e = let same : y ≡ x = cc in ap some same
both_get (y ∷ xs) (suc i) x e = both_get xs i x e

-- what is the same of each member of two lists is the same of the lists
pub same_of_each : {X Y : Type 0} (f : X → Y) (xs ys : List X) → length ys ≡ length xs →
    ((k : ℕ) (x y : X) → slice_get xs k ≡ Some x → slice_get ys k ≡ Some y → f y ≡ f x) → map f ys ≡ map f xs
same_of_each f [] [] same each = refl
same_of_each f [] (y ∷ ys) same each = absurd (omega (arith, same))
same_of_each f (x ∷ xs) [] same each = absurd (omega (arith, same))
same_of_each {X} {Y} f (x ∷ xs) (y ∷ ys) same each =
    ap (λ (z : Y). z ∷ map f ys) (each zero x y refl refl)
    ∙ ap (λ (zs : List Y). f x ∷ zs) (same_of_each f xs ys (omega (arith, same)) (λ k a b. each (suc k) a b))
