-- Where each gives one thing at most, all give no more things than they are.
use Rattle.cal_measure.proofs.Common.{◌≤◌, ℕ, zero, suc, List, [], ◌∷◌, ◌++◌, length, arith, length-append, each_after, each_of, joined_below}

each_after_few : {X Y : Type 0} (f : List X → X → List Y) → ((before : List X) (x : X) → length (f before x) ≤ 1) → (before xs : List X) →
    length (each_after f before xs) ≤ length xs
each_after_few f one before [] = omega arith
each_after_few f one before (x ∷ xs) =
    omega (arith, one before x, each_after_few f one (before ++ x ∷ []) xs, length-append (f before x) (each_after f (before ++ x ∷ []) xs))

pub each_few : {X Y : Type 0} (f : List X → X → List Y) → ((before : List X) (x : X) → length (f before x) ≤ 1) → (xs : List X) →
    length (each_of f xs) ≤ length xs
each_few f one xs = each_after_few f one [] xs

pub joined_few : {X : Type 0} (f : ℕ → List X) → ((i : ℕ) → length (f i) ≤ 1) → (n : ℕ) → length (joined_below f n) ≤ n
joined_few f one zero = omega arith
joined_few f one (suc n) = omega (arith, one n, joined_few f one n, length-append (joined_below f n) (f n))
