-- Sums over lists, and what stands at their places.
use Rattle.cal_kthread.proofs.Common.{◌≡◌, ◌≢◌, ℕ, zero, suc, ◌+◌, ◌<◌, ◌≤◌, List, [], ◌∷◌, ◌++◌, map, length, set, get_or, sym, refl, ap, ◌∙◌, subst, ⊎_elim, arith, some, some-injective, some-ne-none, get_elem?, at_set, weigh, Each, Somewhere}

module _ {T : Type 0} where
  pub weigh-append : (h : T → ℕ) (xs ys : List T) → weigh h (xs ++ ys) ≡ weigh h xs + weigh h ys
  weigh-append h [] ys = omega arith
  weigh-append h (x ∷ xs) ys = let e = weigh-append h xs ys in omega arith

  pub weigh-set : (f : T → ℕ) (xs : List T) (i : ℕ) (x y : T) → get_elem? xs i ≡ some x → weigh f (set xs i y) + f x ≡ weigh f xs + f y
  weigh-set f [] i x y at = absurd (some-ne-none x (sym at))
  weigh-set f (z ∷ zs) zero x y at = let e : f z ≡ f x = ap f (some-injective z x at) in omega arith
  weigh-set f (z ∷ zs) (suc i) x y at = let e = weigh-set f zs i x y at in omega arith

  pub weigh-one-more : (f : T → ℕ) (xs : List T) (y : T) → weigh f (xs ++ y ∷ []) ≡ weigh f xs + f y
  weigh-one-more f xs y = let e = weigh-append f xs (y ∷ []) in omega arith

  -- a member weighs no more than the list
  pub member : (f : T → ℕ) (xs : List T) (i : ℕ) (x : T) → get_elem? xs i ≡ some x → f x ≤ weigh f xs
  member f [] i x at = absurd (some-ne-none x (sym at))
  member f (z ∷ zs) zero x at = let e : f z ≡ f x = ap f (some-injective z x at) in omega arith
  member f (z ∷ zs) (suc i) x at = let e = member f zs i x at in omega arith

  -- a list with some weight has a member with some weight
  pub heavy : (f : T → ℕ) (xs : List T) → 0 < weigh f xs → Somewhere (λ x. 0 < f x) xs
  heavy f [] some_weight = absurd (omega arith)
  heavy f (x ∷ xs) some_weight = first (f x) refl (heavy f xs)
    where
      first : (n : ℕ) → f x ≡ n → (0 < weigh f xs → Somewhere (λ y. 0 < f y) xs) → Somewhere (λ y. 0 < f y) (x ∷ xs)
      first zero e later = let t = later (omega (arith, e, some_weight)) in (suc t.0, t.1, t.2, t.3)
      first (suc n) e later = (0, x, refl, omega (arith, e))

  pub weigh-each : (f g : T → ℕ) (xs : List T) → Each (λ x. f x ≡ g x) xs → weigh f xs ≡ weigh g xs
  weigh-each f g [] all = refl
  weigh-each f g (x ∷ xs) all = let a = all 0 x refl in let b = weigh-each f g xs (λ i. all (suc i)) in omega (arith, a, b)

  pub weigh-plus : (f g : T → ℕ) (xs : List T) → weigh (λ x. f x + g x) xs ≡ weigh f xs + weigh g xs
  weigh-plus f g [] = refl
  weigh-plus f g (x ∷ xs) = let e = weigh-plus f g xs in omega (arith, e)

  pub each-set : (P : T → Type 0) (xs : List T) (i : ℕ) (y : T) → Each P xs → P y → Each P (set xs i y)
  each-set P xs i y all here j z e = ⊎_elim (λ (t : (j ≡ i) × (y ≡ z)). subst P t.1 here) (λ (t : (j ≢ i) × (get_elem? xs j ≡ some z)). all j z t.1) (at_set xs i j y z e)

  pub within : (xs : List T) (i : ℕ) (x : T) → get_elem? xs i ≡ some x → i < length xs
  within [] i x at = absurd (some-ne-none x (sym at))
  within (z ∷ zs) zero x at = omega arith
  within (z ∷ zs) (suc i) x at = let e = within zs i x at in omega (arith, e)

  pub at-get_or : (xs : List T) (i : ℕ) (x d : T) → get_elem? xs i ≡ some x → get_or xs i d ≡ x
  at-get_or [] i x d at = absurd (some-ne-none x (sym at))
  at-get_or (z ∷ zs) zero x d at = some-injective z x at
  at-get_or (z ∷ zs) (suc i) x d at = at-get_or zs i x d at

module _ {T U : Type 0} where
  pub weigh-map : (g : U → ℕ) (f : T → U) (xs : List T) → weigh g (map f xs) ≡ weigh (λ x. g (f x)) xs
  weigh-map g f [] = refl
  weigh-map g f (x ∷ xs) = let e = weigh-map g f xs in omega (arith, e)

  -- a member that is replaced by one that f cannot tell from it
  pub map-set-like : (f : T → U) (xs : List T) (i : ℕ) (x y : T) → get_elem? xs i ≡ some x → f y ≡ f x → map f (set xs i y) ≡ map f xs
  map-set-like f [] i x y at e = refl
  map-set-like f (z ∷ zs) zero x y at e = ap (λ (u : U). u ∷ map f zs) (e ∙ ap f (sym (some-injective z x at)))
  map-set-like f (z ∷ zs) (suc i) x y at e = ap (λ (us : List U). f z ∷ us) (map-set-like f zs i x y at e)

  pub map-append : (f : T → U) (xs ys : List T) → map f (xs ++ ys) ≡ map f xs ++ map f ys
  map-append f [] ys = refl
  map-append f (x ∷ xs) ys = ap (λ (us : List U). f x ∷ us) (map-append f xs ys)

  -- what stands in a mapped list came from the list
  pub map-at : (f : T → U) (xs : List T) (i : ℕ) (y : U) → get_elem? (map f xs) i ≡ some y → (x : T) × (get_elem? xs i ≡ some x) × (f x ≡ y)
  map-at f [] i y at = absurd (some-ne-none y (sym at))
  map-at f (x ∷ xs) zero y at = (x, refl, some-injective (f x) y at)
  map-at f (x ∷ xs) (suc i) y at = map-at f xs i y at

module _ {T : Type 0} where
  pub at-within : (xs : List T) (i : ℕ) (d : T) → i < length xs → get_elem? xs i ≡ some (get_or xs i d)
  at-within [] i d h = absurd (omega (arith, h))
  at-within (x ∷ xs) zero d h = refl
  at-within (x ∷ xs) (suc i) d h = at-within xs i d (omega (arith, h))

module _ {T U V : Type 0} where
  map-through : (f : U → V) (g : T → U) (xs : List T) → map f (map g xs) ≡ map (λ x. f (g x)) xs
  map-through f g [] = refl
  map-through f g (x ∷ xs) = ap (λ (vs : List V). f (g x) ∷ vs) (map-through f g xs)

  -- lists that are the same through g are the same through all that g leaves as it was
  pub same-through : (f : U → V) (g : T → U) (xs ys : List T) → map g xs ≡ map g ys → map (λ x. f (g x)) xs ≡ map (λ y. f (g y)) ys
  same-through f g xs ys same = sym (map-through f g xs) ∙ ap (map f) same ∙ map-through f g ys
