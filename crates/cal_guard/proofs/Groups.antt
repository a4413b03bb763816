-- A pass that is taken group by group.
use Rattle.cal_guard.proofs.Common.{◌≡◌, ℕ, ◌+◌, zero, suc, List, [], ◌∷◌, ◌++◌, length, take, Some, sym, ap, ◌∙◌, arith, subst, ⊎_elim, length-append, slice_get, take-append-le, slice_get_within, Action, Setting, IsPermitted, ArePermitted, MayEndWith, GroupsMakeAPass}
use Rattle.cal_machine.proofs.Places.{slice_get_parts}

-- what stands behind a list stands there when the list comes before it
get_behind : {X : Type 0} (xs ys : List X) (n i : ℕ) → n ≡ length xs + i → slice_get (xs ++ ys) n ≡ slice_get ys i
get_behind [] ys n i e = let same : n ≡ i = omega (arith, e) in ap (λ m. slice_get ys m) same
get_behind (x ∷ xs) ys zero i e = absurd (omega (arith, e))
get_behind (x ∷ xs) ys (suc n) i e = get_behind xs ys n i (omega (arith, e))

take_behind : {X : Type 0} (xs ys : List X) (n i : ℕ) → n ≡ length xs + i → take n (xs ++ ys) ≡ xs ++ take i ys
take_behind [] ys n i e = let same : n ≡ i = omega (arith, e) in ap (λ m. take m ys) same
take_behind (x ∷ xs) ys zero i e = absurd (omega (arith, e))
take_behind (x ∷ xs) ys (suc n) i e = ap (λ zs. x ∷ zs) (take_behind xs ys n i (omega (arith, e)))

together : (s : Setting) (acts group : List Action) → ArePermitted s acts → MayEndWith s acts group → ArePermitted s (acts ++ group)
together s acts group all may = record {
  each = λ i a e. ⊎_elim (λ old. earlier i a old) (λ new. later i new.0 a new.1 new.2) (slice_get_parts acts group i a e);
  short = (let sum = length-append acts group in let short = may.short in omega (arith, sum, short));
  settled = may.settled;
}
  where
    earlier : (i : ℕ) (a : Action) → slice_get acts i ≡ Some a → IsPermitted s (take i (acts ++ group)) a
    earlier i a old =
        let low = slice_get_within acts i a old in
        subst (λ before. IsPermitted s before a) (sym (take-append-le i acts group (omega (arith, low)))) (all.each i a old)

    later : (i j : ℕ) (a : Action) → i ≡ length acts + j → slice_get group j ≡ Some a → IsPermitted s (take i (acts ++ group)) a
    later i j a at new = subst (λ before. IsPermitted s before a) (sym (take_behind acts group i j at)) (may.each j a new)

apart : (s : Setting) (acts group : List Action) → ArePermitted s (acts ++ group) → MayEndWith s acts group
apart s acts group all = record {
  each = λ j a e.
      let at : length acts + j ≡ length acts + j = omega arith in
      subst (λ before. IsPermitted s before a) (take_behind acts group (length acts + j) j at) (all.each (length acts + j) a (get_behind acts group (length acts + j) j at ∙ e));
  short = (let sum = length-append acts group in let short = all.short in omega (arith, sum, short));
  settled = all.settled;
}

pub groups : GroupsMakeAPass
groups s acts group all = (λ may. together s acts group all may, λ whole. apart s acts group whole)
