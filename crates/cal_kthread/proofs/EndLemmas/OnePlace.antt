-- An id that arrived once stands in one place, and one that did not arrive nowhere.
use Rattle.cal_kthread.proofs.Common.{◌≡◌, ℕ, zero, suc, ◌+◌, ◌<◌, ◌≤◌, nat_eq, Bool, true, false, Option, Some, None, List, [], ◌∷◌, refl, ap, ◌∙◌, subst, inl, inr, arith, option_to_list, slice_get, filter_map, cons_option, eq-eqb, eqb-true, Request, Entry, Arrived, Took, Stole, Served, Yielded, Published, IsAccounted, names_of, times, served_in, served_of, one_if, weigh}
use Rattle.cal_kthread.specs.End.OnePlace.{ServedAt, LeftAt, Nowhere, Once, StandsInOnePlace, OnceIsInOnePlace, NeverIsNowhere}
use Rattle.cal_kthread.proofs.ListSums.{weigh-map}

module _ {T : Type 0} where
  -- a member of a list that weighs nothing weighs nothing
  light : (f : T → ℕ) (xs : List T) (k : ℕ) (x : T) → weigh f xs ≡ 0 → slice_get xs k ≡ Some x → f x ≡ 0
  light f [] k x none at = absurd cc
  light f (y ∷ ys) zero x none at = let same : y ≡ x = cc in let e = ap f same in omega (arith, none, e)
  light f (y ∷ ys) (suc k) x none at = light f ys k x (omega (arith, none)) at

  -- a list that weighs one has one member that weighs something
  pub record OnlyOne (f : T → ℕ) (xs : List T) : Type 0 where
    pub place : ℕ
    pub value : T
    pub there : slice_get xs place ≡ Some value
    pub one : f value ≡ 1
    pub only : (k : ℕ) (x : T) → slice_get xs k ≡ Some x → 0 < f x → k ≡ place

  only-one : (f : T → ℕ) (xs : List T) → weigh f xs ≡ 1 → OnlyOne f xs
  only-one f [] weighs = absurd (omega (arith, weighs))
  only-one f (y ∷ ys) weighs = by-first (only-one f ys) (f y) refl
    where
      by-first : (weigh f ys ≡ 1 → OnlyOne f ys) → (n : ℕ) → f y ≡ n → OnlyOne f (y ∷ ys)
      by-first later zero first = let rest = later (omega (arith, weighs, first)) in record {
        place = suc rest.place;
        value = rest.value;
        there = rest.there;
        one = rest.one;
        only = after rest;
      }
        where
          after : (rest : OnlyOne f ys) (k : ℕ) (x : T) → slice_get (y ∷ ys) k ≡ Some x → 0 < f x → k ≡ suc rest.place
          after rest zero x at some_weight = let same : y ≡ x = cc in let e = ap f same in absurd (omega (arith, e, first, some_weight))
          after rest (suc k) x at some_weight = ap suc (rest.only k x at some_weight)
      by-first later (suc n) first = record { place = 0; value = y; there = refl; one = omega (arith, weighs, first); only = before }
        where
          before : (k : ℕ) (x : T) → slice_get (y ∷ ys) k ≡ Some x → 0 < f x → k ≡ 0
          before zero x at some_weight = refl
          before (suc k) x at some_weight = let e = light f ys k x (omega (arith, weighs, first)) at in absurd (omega (arith, e, some_weight))

module _ {T : Type 0} where
  -- the same of the members of lists
  module _ (f : T → ℕ) (xss : List (List T)) where
    abbrev At : ℕ → ℕ → Type 0
    At k i = (xs : List T) × (x : T) × (slice_get xss k ≡ Some xs) × (slice_get xs i ≡ Some x) × (0 < f x)

    nowhere : weigh (weigh f) xss ≡ 0 → Nowhere At
    nowhere none k i at = let outer = light (weigh f) xss k at.0 none at.2 in let inner = light f at.0 i at.1 outer at.3 in
        let some_weight = at.4 in absurd (omega (arith, inner, some_weight))

    once : weigh (weigh f) xss ≡ 1 → (k : ℕ) × (i : ℕ) × (xs : List T) × (x : T) × (slice_get xss k ≡ Some xs) × (slice_get xs i ≡ Some x) × (f x ≡ 1)
        × ((m n : ℕ) → At m n → (m ≡ k) × (n ≡ i))
    once weighs = let outer = only-one (weigh f) xss weighs in let inner = only-one f outer.value outer.one in
        (outer.place, inner.place, outer.value, inner.value, outer.there, inner.there, inner.one, λ m n at. same outer inner m n at)
      where
        heavier : (ys : List T) (k : ℕ) (y : T) → slice_get ys k ≡ Some y → f y ≤ weigh f ys
        heavier [] k y at = absurd cc
        heavier (z ∷ zs) zero y at = let e : z ≡ y = cc in let g = ap f e in omega (arith, g)
        heavier (z ∷ zs) (suc k) y at = let e = heavier zs k y at in omega (arith, e)

        same : (outer : OnlyOne (weigh f) xss) (inner : OnlyOne f outer.value) (m n : ℕ) → At m n → (m ≡ outer.place) × (n ≡ inner.place)
        same outer inner m n at = let h = heavier at.0 n at.1 at.3 in let some_weight = at.4 in
            let there = outer.only m at.0 at.2 (omega (arith, h, some_weight)) in
            let same_list : at.0 ≡ outer.value = let a : slice_get xss outer.place ≡ Some at.0 = subst (λ k. slice_get xss k ≡ Some at.0) there at.2 in let b = outer.there in cc in
            (there, inner.only n at.1 (subst (λ l. slice_get l n ≡ Some at.1) same_list at.3) at.4)

weigh-chosen : {X Y : Type 0} (g : Y → ℕ) (h : X → Option Y) (xs : List X) → weigh g (filter_map h xs) ≡ weigh (λ x. weigh g (option_to_list (h x))) xs
weigh-chosen {Y = Y} g h [] = refl
weigh-chosen {Y = Y} g h (x ∷ xs) = let e = weigh-chosen g h xs in let f = first (h x) (filter_map h xs) in omega (arith, e, f)
  where
    first : (o : Option Y) (ys : List Y) → weigh g (cons_option o ys) ≡ weigh g (option_to_list o) + weigh g ys
    first None ys = omega arith
    first (Some y) ys = omega arith

is-one : (a b : ℕ) → 0 < one_if (nat_eq a b) → a ≡ b
is-one a b p = eqb-true a b (true-of (nat_eq a b) p)
  where
    true-of : (t : Bool) → 0 < one_if t → t ≡ true
    true-of true q = refl
    true-of false q = absurd (omega (arith, q))

-- how often an entry says that this id was served
abbrev serves : ℕ → Entry → ℕ
serves id entry = weigh (λ other. one_if (nat_eq other id)) (option_to_list (served_in entry))

serves-it : (id : ℕ) (entry : Entry) → 0 < serves id entry → entry ≡ Served id
serves-it id (Arrived r) p = absurd (omega (arith, p))
serves-it id (Took n c) p = absurd (omega (arith, p))
serves-it id (Stole from other) p = absurd (omega (arith, p))
serves-it id (Served other) p = ap Served (is-one other id (omega (arith, p)))
serves-it id Yielded p = absurd (omega (arith, p))
serves-it id (Published n r) p = absurd (omega (arith, p))

served-serves : (id : ℕ) → 0 < serves id (Served id)
served-serves id = let e : one_if (nat_eq id id) ≡ 1 = ap one_if (eq-eqb id id refl) in omega (arith, e)

-- how often a request has this id
abbrev pub has : ℕ → Request → ℕ
has id request = one_if (nat_eq request.id id)

module _ (journals : List (List Entry)) (lefts : List (List Request)) (id : ℕ) (accounted : IsAccounted journals lefts) where
  served-weight : (all : List (List Entry)) → weigh (λ journal. times id (served_of journal)) all ≡ weigh (weigh (serves id)) all
  served-weight [] = refl
  served-weight (j ∷ js) = let e = served-weight js in let f = weigh-chosen (λ other. one_if (nat_eq other id)) served_in j in omega (arith, e, f)

  left-weight : (all : List (List Request)) → weigh (λ left. times id (names_of left)) all ≡ weigh (weigh (has id)) all
  left-weight [] = refl
  left-weight (l ∷ ls) = let e = left-weight ls in let f = weigh-map (λ other. one_if (nat_eq other id)) (λ (r : Request). r.id) l in omega (arith, e, f)

  not-served : weigh (weigh (serves id)) journals ≡ 0 → Nowhere (ServedAt journals id)
  not-served none k i at = nowhere (serves id) journals none k i (at.0, Served id, at.1, at.2, served-serves id)

  not-left : weigh (weigh (has id)) lefts ≡ 0 → Nowhere (LeftAt lefts id)
  not-left none k i at = nowhere (has id) lefts none k i (at.0, at.1, at.2, at.3, is-named at.1 at.4)
    where
      is-named : (r : Request) → r.id ≡ id → 0 < has id r
      is-named r named = let e : one_if (nat_eq r.id id) ≡ 1 = ap one_if (eq-eqb r.id id named) in omega (arith, e)

  served-once : weigh (weigh (serves id)) journals ≡ 1 → Once (ServedAt journals id)
  served-once one = let o = once (serves id) journals one in let w = o.6 in
      let is : o.3 ≡ Served id = serves-it id o.3 (omega (arith, w)) in (
        o.0,
        o.1,
        (o.2, o.4, o.5 ∙ ap (λ (e : Entry). Some e) is),
        λ m n at. o.7 m n (at.0, Served id, at.1, at.2, served-serves id),
      )

  left-once : weigh (weigh (has id)) lefts ≡ 1 → Once (LeftAt lefts id)
  left-once one = let o = once (has id) lefts one in let w = o.6 in
      let is : o.3.id ≡ id = is-one o.3.id id (omega (arith, w)) in (
        o.0,
        o.1,
        (o.2, o.3, o.4, o.5, is),
        λ m n at. o.7 m n (at.0, at.1, at.2, at.3, (let e : one_if (nat_eq at.1.id id) ≡ 1 = ap one_if (eq-eqb at.1.id id at.4) in omega (arith, e))),
      )

pub once-is-in-one-place : OnceIsInOnePlace
once-is-in-one-place journals lefts id accounted one = by-served (weigh (weigh (serves id)) journals) refl
  where
    by-served : (n : ℕ) → weigh (weigh (serves id)) journals ≡ n → StandsInOnePlace journals lefts id
    by-served zero none = let e = accounted.each id in let s = served-weight journals lefts id accounted journals in let l = left-weight journals lefts id accounted lefts in
        inr (not-served journals lefts id accounted none, left-once journals lefts id accounted (omega (arith, e, s, l, none, one)))
    by-served (suc n) some_served = let e = accounted.each id in let s = served-weight journals lefts id accounted journals in let l = left-weight journals lefts id accounted lefts in
        inl (served-once journals lefts id accounted (omega (arith, e, s, l, some_served, one)), not-left journals lefts id accounted (omega (arith, e, s, l, some_served, one)))

pub never-is-nowhere : NeverIsNowhere
never-is-nowhere journals lefts id accounted none =
    let e = accounted.each id in let s = served-weight journals lefts id accounted journals in let l = left-weight journals lefts id accounted lefts in
    (not-served journals lefts id accounted (omega (arith, e, s, l, none)), not-left journals lefts id accounted (omega (arith, e, s, l, none)))
