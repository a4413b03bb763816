-- A task that is short where its turn begins is short wherever it acts in it.
use Rattle.cal_guarantee.proofs.Common.{◌≡◌, ℕ, ◌<◌, ◌⊎◌, Bool, true, false, not, ◌&&◌, ◌||◌, cond, ltb, List, [], ◌∷◌, ◌++◌, Option, Some, None, refl, ap, sym, ◌∙◌, subst, arith, inl, inr, ⊎_elim, append_assoc, zero, suc, append-nil, and_from, or_left, lt-ltb, eq-eqb, le-leb, or_right, thread_of, limit_of, Action, Revoke, Grant, CoreClass, Candidate, class_number, is_idle, Setting, so_far, grant_of, thread_choice, thread_rank, best_ranked, is_short, waits, choice_for, has_acted, is_own, may_act, act_of, acts_in_place, acted_more}
use Rattle.cal_policy.specs.declared.history.action.Cause.TheVariants as causes

-- an act is of the task, where it is one at all
abbrev IsItsAct : Setting → ℕ → List Action → Type 0
IsItsAct s t l = (l ≡ []) ⊎ (has_acted s.table l t ≡ true)

own_thread : (s : Setting) (t j : ℕ) → j < limit_of s.table t → is_own s.table t (thread_of s.table t j) ≡ true
own_thread s t j lt = and_from _ _ (le-leb (thread_of s.table t 0) (thread_of s.table t j) (omega arith)) (lt-ltb (thread_of s.table t j) (thread_of s.table t (limit_of s.table t)) (omega (arith, lt)))

by_class : (s : Setting) (t : ℕ) (b : Bool) (core k class : ℕ) → is_own s.table t k ≡ true → IsItsAct s t (cond b (Grant core k class ∷ []) (Revoke core (causes.Preempt t) ∷ []))
by_class s t true core k class own = inr (or_left (is_own s.table t k) false own)
by_class s t false core k class own = inr (or_left _ false (eq-eqb t t refl))

chosen_act : (s : Setting) (x : List Action) (t : ℕ) (o : Option (Candidate ℕ)) (k : Option (Candidate CoreClass)) → thread_choice s x t ≡ o → IsItsAct s t (grant_of s t o k)
chosen_act s x t None k e = inl refl
chosen_act s x t (Some thread) None e = inl refl
chosen_act s x t (Some thread) (Some k) e =
    let longest = best_ranked (λ rank best. ltb best rank) (λ j. thread_rank s x (thread_of s.table t j)) (limit_of s.table t) thread e in
    by_class s t (is_idle k.rank) k.number (thread_of s.table t thread.number) (class_number k.rank) (own_thread s t thread.number longest.0)

either_act : (s : Setting) (t : ℕ) (b : Bool) (l : List Action) → IsItsAct s t l → IsItsAct s t (cond b l [])
either_act s t true l e = e
either_act s t false l e = inl refl

its_act : (s : Setting) (acts : List Action) (t : ℕ) → IsItsAct s t (act_of s acts t)
its_act s acts t =
    let x = so_far s acts in
    either_act s t (waits s x t && may_act s acts t) (grant_of s t (thread_choice s x t) (choice_for s acts t)) (chosen_act s x t (thread_choice s x t) (choice_for s acts t) refl)

-- after each act it is short still, or has acted
abbrev IsShortOrActed : Setting → ℕ → List Action → Type 0
IsShortOrActed s t now = (is_short s.table (so_far s now) t ≡ true) ⊎ (has_acted s.table now t ≡ true)

one_act : (s : Setting) (t : ℕ) (now l : List Action) → IsItsAct s t l → IsShortOrActed s t now → IsShortOrActed s t (now ++ l)
one_act s t now l (inl none) so =
    let P : List Action → Type 0 = λ all. IsShortOrActed s t all in
    subst P (sym (ap (λ more. now ++ more) none ∙ append-nil now)) so
one_act s t now l (inr acted) so = inr (acted_more s.table now l t ∙ or_right (has_acted s.table now t) (has_acted s.table l t) acted)

short_or_acted : (s : Setting) (acts : List Action) (t n : ℕ) → is_short s.table (so_far s acts) t ≡ true → IsShortOrActed s t (acts ++ acts_in_place n s (Some t) acts)
short_or_acted s acts t zero short =
    let P : List Action → Type 0 = λ all. IsShortOrActed s t all in
    subst P (sym (append-nil acts)) (inl short)
short_or_acted s acts t (suc n) short =
    let so = acts_in_place n s (Some t) acts in
    let now = acts ++ so in
    let P : List Action → Type 0 = λ all. IsShortOrActed s t all in
    subst P (append_assoc acts so (act_of s now t)) (one_act s t now (act_of s now t) (its_act s now t) (short_or_acted s acts t n short))

-- one that has acted may act where it is short
may_be_short : (short acted : Bool) → acted ≡ true → (short || not acted) ≡ true → short ≡ true
may_be_short true acted e f = refl
may_be_short false true e f = cc
may_be_short false false e f = cc

pub acts_short : (s : Setting) (acts : List Action) (t n : ℕ) → is_short s.table (so_far s acts) t ≡ true → may_act s (acts ++ acts_in_place n s (Some t) acts) t ≡ true →
    is_short s.table (so_far s (acts ++ acts_in_place n s (Some t) acts)) t ≡ true
acts_short s acts t n short may =
    let now = acts ++ acts_in_place n s (Some t) acts in ⊎_elim
    (λ is. is)
    (λ acted. may_be_short (is_short s.table (so_far s now) t) (has_acted s.table now t) acted may)
    (short_or_acted s acts t n short)
