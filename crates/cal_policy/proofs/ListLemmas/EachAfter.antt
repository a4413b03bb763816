-- What holds of each member of a list, told what came before it.
use Rattle.cal_policy.proofs.Common.{◌≡◌, ℕ, ◌<◌, suc, zero, List, [], ◌∷◌, ◌++◌, take, Some, arith, append_assoc, append-nil, in_turn, EachAfter}
use Rattle.std.specs.List.{slice_get}

pub each_append : {X : Type 0} (P : List X → X → Type 0) (before xs ys : List X) →
    EachAfter P before xs → EachAfter P (before ++ xs) ys → EachAfter P before (xs ++ ys)
each_append P before [] ys e f = rw append-nil at f
each_append P before (x ∷ xs) ys e f = (e.0, each_append P (before ++ x ∷ []) xs ys e.1 (rw (append_assoc before (x ∷ []) xs) f))

-- each that f gives in turn, where each that it gives of one number is
pub each_in_turn : {X : Type 0} (P : List X → X → Type 0) (f : List X → ℕ → List X) (before : List X) (n : ℕ) →
    ((acts : List X) (k : ℕ) → k < n → EachAfter P acts (f acts k)) → EachAfter P before (in_turn f before n)
each_in_turn P f before zero e = tt
each_in_turn P f before (suc n) e =
    each_append P before (in_turn f before n) (f (before ++ in_turn f before n) n)
    (each_in_turn P f before n (λ acts k lt. e acts k (omega arith))) (e (before ++ in_turn f before n) n (omega arith))

-- the same by place
pub each_at : {X : Type 0} (P : List X → X → Type 0) (before xs : List X) (i : ℕ) (x : X) →
    EachAfter P before xs → slice_get xs i ≡ Some x → P (before ++ take i xs) x
each_at P before [] i x e is = cc
each_at P before (y ∷ xs) zero x e is = let same : y ≡ x = cc in rw (append-nil, ← same) e.0
each_at P before (y ∷ xs) (suc i) x e is = rw (← append_assoc before (y ∷ []) (take i xs)) (each_at P (before ++ y ∷ []) xs i x e.1 is)
