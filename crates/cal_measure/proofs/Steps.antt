-- Loops over a list, one member more.
use Rattle.cal_measure.proofs.Common.{◌≡◌, ◌<◌, ◌+◌, ◌∙◌, ℕ, List, [], ◌∷◌, ◌++◌, length, get_or, take, subst, sym, ap, append_assoc, refl, add-one, take_more, each_of, each_of_push, joined_below}

-- what holds of the members so far and the next one
pub grown : {X : Type 0} (P : List X → Type 0) (xs : List X) (i : ℕ) (d : X) → i < length xs → P (take i xs ++ get_or xs i d ∷ []) → P (take (i + 1) xs)
grown P xs i d lt h = subst P (sym (take_more xs i d lt)) h

-- lists end to end, one list more
pub joined_more : {X : Type 0} (f : ℕ → List X) (n : ℕ) → joined_below f n ++ f n ≡ joined_below f (n + 1)
joined_more f n = rw (add-one n) refl

-- what is made of each member, put after what was there
pub each_grown : {X Y : Type 0} (f : List X → X → List Y) (front : List Y) (xs : List X) (i : ℕ) (d : X) (ys new : List Y) → i < length xs →
    ys ≡ front ++ each_of f (take i xs) → new ≡ ys ++ f (take i xs) (get_or xs i d) → new ≡ front ++ each_of f (take (i + 1) xs)
each_grown f front xs i d ys new lt before one =
    grown (λ l. new ≡ front ++ each_of f l) xs i d lt
    (one ∙ ap (λ l. l ++ f (take i xs) (get_or xs i d)) before
    ∙ append_assoc front (each_of f (take i xs)) (f (take i xs) (get_or xs i d))
    ∙ ap (λ l. front ++ l) (sym (each_of_push f (take i xs) (get_or xs i d))))
