-- Counts of actions, one action more.
use Rattle.cal_measure.proofs.Common.{◌≡◌, ◌≤◌, ◌<◌, ◌+◌, ◌^◌, ◌∙◌, ℕ, Bool, true, false, cond, List, [], ◌∷◌, ◌++◌, length, length-append, take, ap, refl, sym, arith, each_after, each_of, Action, each_of_push, if_such, many_of, one_at_most}
use Rattle.std.proofs.lemmas.Grind.{common_steps}

length_if : (b : Bool) (action : Action) → length (cond b (action ∷ []) []) ≡ cond b 1 0
length_if true action = refl
length_if false action = refl

-- one more, if it is such
pub many_push : (such : List Action → Action → Bool) (x : List Action) (action : Action) →
    many_of such (x ++ action ∷ []) ≡ many_of such x + cond (such x action) 1 0
many_push such x action =
    ap (λ (l : List Action). length l) (each_of_push (if_such such) x action)
    ∙ length-append (each_of (if_such such) x) (if_such such x action)
    ∙ ap (λ n. many_of such x + n) (length_if (such x action) action)

few_after : (such : List Action → Action → Bool) (before x : List Action) → length (each_after (if_such such) before x) ≤ length x
few_after such before [] = omega arith
few_after such before (action ∷ x) =
    omega (
      arith,
      length-append (if_such such before action) (each_after (if_such such) (before ++ action ∷ []) x),
      length_if (such before action) action,
      one_at_most (such before action),
      few_after such (before ++ action ∷ []) x,
    )

-- no more than there are
pub many_few : (such : List Action → Action → Bool) (x : List Action) → many_of such x ≤ length x
many_few such x = few_after such [] x

-- a count that was right is right with one action more
pub counted : (such : List Action → Action → Bool) (x : List Action) (action : Action) (count new : ℕ) (more : Bool) → length x + 1 < 2 ^ 64 →
    count ≡ many_of such x → more ≡ such x action → (count + 1 < 2 ^ 64 → new ≡ count + cond more 1 0) → new ≡ many_of such (x ++ action ∷ [])
counted such x action count new more low was is plus =
    plus (let few = many_few such x in omega (arith, was, few))
    ∙ ap (λ n. n + cond more 1 0) was
    ∙ ap (λ (b : Bool). many_of such x + cond b 1 0) is
    ∙ sym (many_push such x action)

-- so far there are fewer actions than in all
pub low_so_far : (x xs : List Action) (n : ℕ) → n < length xs → length (x ++ xs) < 2 ^ 64 → length (x ++ take n xs) + 1 < 2 ^ 64
low_so_far x xs n lt low = grind (arith, common_steps, lt, low)
