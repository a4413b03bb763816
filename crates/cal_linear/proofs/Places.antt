-- The furthest place that was read of each thread, look by look and pass by pass.
use Rattle.cal_linear.proofs.Common.{◌≡◌, ℕ, ◌+◌, ◌<◌, suc, zero, false, true, eqb, cond, List, [], ◌∷◌, ◌++◌, Option, Some, None, refl, sym, ap, ◌∙◌, append-nil, arith, max, Bool, option_to_list, nat_tests, Seen, PassEntry, filter_map-push, place_found, place_in, places_read, greatest, furthest, further, after_looks}
use mathlib.Core.Path.{fun_ext}

-- after one more look at a thread
abbrev pub place_after : ℕ → Seen → ℕ
place_after place seen = further place (place_found seen)

-- of each thread, after a look at thread k
abbrev pub with_look : (ℕ → ℕ) → ℕ → Seen → ℕ → ℕ
with_look places k seen thread = cond (eqb k thread) (place_after (places thread) seen) (places thread)

-- after the looks of a pass, from thread k on
abbrev pub with_looks : (ℕ → ℕ) → ℕ → List Seen → ℕ → ℕ
with_looks places k [] = places
with_looks places k (seen ∷ looks) = with_looks (with_look places k seen) (k + 1) looks

-- a look at a thread leaves the places of the others
pub look_leaves : (places : ℕ → ℕ) (k : ℕ) (seen : Seen) (j : ℕ) → eqb k j ≡ false → with_look places k seen j ≡ places j
look_leaves places k seen j e = ap (λ (b : Bool). cond b (place_after (places j) seen) (places j)) e

look_here : (places : ℕ → ℕ) (k : ℕ) (seen : Seen) (j : ℕ) → eqb k j ≡ true → with_look places k seen j ≡ place_after (places j) seen
look_here places k seen j e = ap (λ (b : Bool). cond b (place_after (places j) seen) (places j)) e

-- each thread's own look alone tells what becomes of its place
looks_below : (places : ℕ → ℕ) (k : ℕ) (looks : List Seen) (j : ℕ) → j < k → with_looks places k looks j ≡ places j
looks_below places k [] j lt = refl
looks_below places k (s ∷ looks) j lt =
    let other : eqb k j ≡ false = grind (arith, nat_tests) in
    looks_below (with_look places k s) (k + 1) looks j (omega (arith, lt)) ∙ look_leaves places k s j other

looks_at : (places : ℕ → ℕ) (k : ℕ) (looks : List Seen) (i j : ℕ) → j ≡ k + i → with_looks places k looks j ≡ further (places j) (place_in looks i)
looks_at places k [] i j e = refl
looks_at places k (s ∷ looks) zero j e =
    let here : eqb k j ≡ true = grind (arith, nat_tests) in
    looks_below (with_look places k s) (k + 1) looks j (omega (arith, e)) ∙ look_here places k s j here
looks_at places k (s ∷ looks) (suc i) j e =
    let other : eqb k j ≡ false = grind (arith, nat_tests) in
    looks_at (with_look places k s) (k + 1) looks i j (omega (arith, e)) ∙ ap (λ n. further n (place_in looks i)) (look_leaves places k s j other)

-- one place more
greatest_push : (ns : List ℕ) (n : ℕ) → greatest (ns ++ n ∷ []) ≡ max (greatest ns) n
greatest_push [] n = omega arith
greatest_push (m ∷ ns) n = let e = greatest_push ns n in omega (arith, e)

greatest_more : (ns : List ℕ) (o : Option ℕ) → greatest (ns ++ option_to_list o) ≡ further (greatest ns) o
greatest_more ns None = ap greatest (append-nil ns)
greatest_more ns (Some n) = greatest_push ns n

-- the furthest places, one pass more
pub furthest_more : (passes : List PassEntry) (entry : PassEntry) → after_looks (furthest passes) entry.input.seen ≡ furthest (passes ++ entry ∷ [])
furthest_more passes entry =
    fun_ext
    (λ k. sym (ap greatest (filter_map-push (λ (p : PassEntry). place_in p.input.seen k) passes entry) ∙ greatest_more (places_read passes k) (place_in entry.input.seen k)))

pub furthest_next : (passes : List PassEntry) (entry : PassEntry) → with_looks (furthest passes) 0 entry.input.seen ≡ furthest (passes ++ entry ∷ [])
furthest_next passes entry =
    fun_ext (λ j. looks_at (furthest passes) 0 entry.input.seen j j (omega arith)) ∙ furthest_more passes entry
