-- One more of what was recorded, read back at the end of a list.
use Rattle.caladan_c.proofs.Common.{◌≡◌, ℕ, ◌+◌, ◌<◌, ◌++◌, ◌∷◌, [], List, length, map, take, get_or, sym, ap, ◌∙◌, map-append, map_more, take_more}

-- the new one tells what the next one is
pub image_more : {A B C : Type 0} (f : A → B) (g : C → B) (xs : List C) (i : ℕ) (d : C) (old new : List A) (one : A)
    → i < length xs → map f old ≡ map g (take i xs) → f one ≡ g (get_or xs i d) → new ≡ old ++ one ∷ []
    → map f new ≡ map g (take (i + 1) xs)
image_more f g xs i d old new one lt before is pushed =
    ap (map f) pushed ∙ map-append f old (one ∷ []) ∙ ap (λ l. l ++ f one ∷ []) before
    ∙ ap (λ b. map g (take i xs) ++ b ∷ []) is ∙ sym (map_more g xs i d lt)

-- the new one is what the next one tells
pub told_more : {A B : Type 0} (f : A → B) (xs : List A) (i : ℕ) (d : A) (old new : List B) (one : B)
    → i < length xs → old ≡ map f (take i xs) → one ≡ f (get_or xs i d) → new ≡ old ++ one ∷ []
    → new ≡ map f (take (i + 1) xs)
told_more f xs i d old new one lt before is pushed =
    pushed ∙ ap (λ l. l ++ one ∷ []) before ∙ ap (λ b. map f (take i xs) ++ b ∷ []) is ∙ sym (map_more f xs i d lt)

-- the new one tells the next one
pub taken_more : {A B : Type 0} (f : A → B) (xs : List B) (i : ℕ) (d : B) (old new : List A) (one : A)
    → i < length xs → map f old ≡ take i xs → f one ≡ get_or xs i d → new ≡ old ++ one ∷ []
    → map f new ≡ take (i + 1) xs
taken_more f xs i d old new one lt before is pushed =
    ap (map f) pushed ∙ map-append f old (one ∷ []) ∙ ap (λ l. l ++ f one ∷ []) before
    ∙ ap (λ b. take i xs ++ b ∷ []) is ∙ sym (take_more xs i d lt)
