-- What holds of each member of a list, told its place.
use Rattle.cal_policy.proofs.Common.{◌≡◌, ℕ, ◌+◌, ◌<◌, ◌≤◌, List, [], ◌∷◌, ◌++◌, length, get_or, take, Some, slice_get, subst, ap, sym, ◌∙◌, append_assoc, arith, take_more, slice_get_within, get_or_from_slice_get, slice_get-get_or}
use borrow.Author.Count.{below_more}

-- of each member below n, and of the member at n: then of each below n + 1
pub each_more : {X : Type 0} (P : ℕ → X → Type 0) (xs : List X) (n : ℕ) (d : X) →
    ((i : ℕ) → i < n → (x : X) → slice_get xs i ≡ Some x → P i x) → P n (get_or xs n d) →
    (i : ℕ) → i < n + 1 → (x : X) → slice_get xs i ≡ Some x → P i x
each_more {X} P xs n d below here =
    below_more (λ (i : ℕ). (x : X) → slice_get xs i ≡ Some x → P i x) n below
    (λ x e. let Q : X → Type 0 = λ y. P n y in subst Q (get_or_from_slice_get xs n x d e) here)

-- of each member below the list's end: of each
pub each_all : {X : Type 0} (P : ℕ → X → Type 0) (xs : List X) (n : ℕ) → length xs ≤ n →
    ((i : ℕ) → i < n → (x : X) → slice_get xs i ≡ Some x → P i x) →
    (i : ℕ) (x : X) → slice_get xs i ≡ Some x → P i x
each_all P xs n le below i x e = below i (let lt : i < length xs = slice_get_within xs i x e in omega arith) x e

-- of each: so of the member at n
pub each_at : {X : Type 0} (P : ℕ → X → Type 0) (xs : List X) (n : ℕ) (d : X) → n < length xs →
    ((i : ℕ) (x : X) → slice_get xs i ≡ Some x → P i x) → P n (get_or xs n d)
each_at P xs n d lt h = h n (get_or xs n d) (slice_get-get_or xs n d lt)

-- the same, of a member that is not read through a default
pub each_more_item : {X : Type 0} (P : ℕ → X → Type 0) (xs : List X) (n : ℕ) (item : X) → item ≡ get_or xs n item →
    ((i : ℕ) → i < n → (x : X) → slice_get xs i ≡ Some x → P i x) → P n item →
    (i : ℕ) → i < n + 1 → (x : X) → slice_get xs i ≡ Some x → P i x
each_more_item {X} P xs n item is below here = each_more P xs n item below (let Q : X → Type 0 = λ y. P n y in subst Q is here)

-- what came before, with the next member
pub take_item : {X : Type 0} (xs : List X) (n : ℕ) (item : X) → n < length xs → item ≡ get_or xs n item →
    take n xs ++ item ∷ [] ≡ take (n + 1) xs
take_item xs n item lt is = ap (λ y. take n xs ++ y ∷ []) is ∙ sym (take_more xs n item lt)

pub after_more : {X : Type 0} (x xs : List X) (n : ℕ) (d : X) → n < length xs →
    (x ++ take n xs) ++ get_or xs n d ∷ [] ≡ x ++ take (n + 1) xs
after_more x xs n d lt = append_assoc x (take n xs) (get_or xs n d ∷ []) ∙ ap (λ l. x ++ l) (sym (take_more xs n d lt))
