-- What is made of each member of a list and its number, with one more member.
use Rattle.cal_trace.proofs.Common.{◌≡◌, ◌<◌, ◌+◌, ◌∙◌, ℕ, zero, suc, List, [], ◌∷◌, ◌++◌, length, take, get_or, refl, sym, ap, arith, add-one, add-zero, append_assoc, zero-add, subst, Option, append-nil, Appends, concat, flat_map, Appends-trans, numbered}

pub numbered-more : {X Y : Type 0} → (f : ℕ → X → Y) (n : ℕ) (xs : List X) (i : ℕ) (d : X) → i < length xs
    → numbered f n (take (i + 1) xs) ≡ numbered f n (take i xs) ++ f (n + i) (get_or xs i d) ∷ []
numbered-more f n [] i d lt = absurd (omega arith)
numbered-more f n (x ∷ xs) zero d lt = rw (add-zero n) refl
numbered-more f n (x ∷ xs) (suc i) d lt =
    let m : n + 1 + i ≡ n + suc i = omega arith in
    rw (add-one (suc i)) (ap (λ ys. f n x ∷ ys) (rw (add-one i, m) at (numbered-more f (n + 1) xs i d (omega arith))))

-- one more at the end
pub flat_map-one : {X Y : Type 0} → (f : X → List Y) (xs : List X) (y : X) → flat_map f (xs ++ y ∷ []) ≡ flat_map f xs ++ f y
flat_map-one f [] y = append-nil (f y)
flat_map-one f (x ∷ xs) y = ap (λ ys. f x ++ ys) (flat_map-one f xs y) ∙ sym (append_assoc (f x) (flat_map f xs) (f y))

pub concat-one : (xs : List (List ℕ)) (y : List ℕ) → concat (xs ++ y ∷ []) ≡ concat xs ++ y
concat-one [] y = append-nil y
concat-one (x ∷ xs) y = ap (λ ys. x ++ ys) (concat-one xs y) ∙ sym (append_assoc x (concat xs) y)

-- the text of one more member
pub one_numbered : {X : Type 0} → (f : ℕ → X → List ℕ) (a b c : Option (List ℕ)) (xs : List X) (i : ℕ) (d : X) → i < length xs
    → Appends a b (concat (numbered f 0 (take i xs))) → Appends b c (f i (get_or xs i d)) → Appends a c (concat (numbered f 0 (take (i + 1) xs)))
one_numbered f a b c xs i d lt p q =
    let e = ap concat (numbered-more f 0 xs i d lt) ∙ concat-one (numbered f 0 (take i xs)) (f (0 + i) (get_or xs i d)) in
    subst (λ t. Appends a c t) (sym e) (rw (zero-add i) (Appends-trans a b c _ _ p q))

pub one_numbered_at : {X : Type 0} → (f : ℕ → X → List ℕ) (a b c : Option (List ℕ)) (xs : List X) (i : ℕ) (x : X) → i < length xs → x ≡ get_or xs i x
    → Appends a b (concat (numbered f 0 (take i xs))) → Appends b c (f i x) → Appends a c (concat (numbered f 0 (take (i + 1) xs)))
one_numbered_at f a b c xs i x lt is p q = one_numbered f a b c xs i x lt p (subst (λ t. Appends b c t) (ap (f i) is) q)

-- one more member at the end of a whole list
pub numbered-end : {X Y : Type 0} → (f : ℕ → X → Y) (n : ℕ) (xs : List X) (x : X) → numbered f n (xs ++ x ∷ []) ≡ numbered f n xs ++ f (n + length xs) x ∷ []
numbered-end f n [] x = rw (add-zero n) refl
numbered-end f n (y ∷ xs) x =
    let m : n + 1 + length xs ≡ n + length (y ∷ xs) = omega arith in
    ap (λ ys. f n y ∷ ys) (rw m at (numbered-end f (n + 1) xs x))

pub text-end : {X : Type 0} → (f : ℕ → X → List ℕ) (xs : List X) (x : X) → concat (numbered f 0 (xs ++ x ∷ [])) ≡ concat (numbered f 0 xs) ++ f (length xs) x
text-end f xs x =
    ap concat (numbered-end f 0 xs x) ∙ concat-one (numbered f 0 xs) (f (0 + length xs) x) ∙ ap (λ n. concat (numbered f 0 xs) ++ f n x) (zero-add (length xs))
