-- An act of a task, by what is chosen for it.
use Rattle.cal_guarantee.proofs.Common.{◌≡◌, ℕ, true, ◌&&◌, cond, ltb, List, [], ◌∷◌, Option, Some, None, refl, ap, ◌∙◌, not, and_parts, and_from, or_left, is_some, option_or, thread_of, Action, Grant, CoreClass, Candidate, class_number, is_idle, Setting, so_far, thread_choice, grant_of, may_book, pressing, is_short, surplus, waits, open_choice, held_choice, may_preempt, choice_for, has_acted, may_act, act_of}

-- a short task may act
pub short_acts : (s : Setting) (acts : List Action) (t : ℕ) → is_short s.table (so_far s acts) t ≡ true → may_act s acts t ≡ true
short_acts s acts t short = or_left (is_short s.table (so_far s acts) t) (not (has_acted s.table acts t)) short

pub act_is : (s : Setting) (acts : List Action) (t : ℕ) → may_act s acts t ≡ true → waits s (so_far s acts) t ≡ true →
    act_of s acts t ≡ grant_of s t (thread_choice s (so_far s acts) t) (choice_for s acts t)
act_is s acts t may w =
    ap (λ b. cond b (grant_of s t (thread_choice s (so_far s acts) t) (choice_for s acts t)) []) (and_from (waits s (so_far s acts) t) (may_act s acts t) w may)

pub waits_thread : (s : Setting) (x : List Action) (t : ℕ) → waits s x t ≡ true → is_some (thread_choice s x t) ≡ true
waits_thread s x t w = (and_parts (ltb (surplus s x t) (pressing s x t) && may_book s x t) (is_some (thread_choice s x t)) w).1

given_grant : (s : Setting) (t : ℕ) (o : Option (Candidate ℕ)) (k : Candidate CoreClass) → is_some o ≡ true → is_idle k.rank ≡ true →
    (thread : Candidate ℕ) × (o ≡ Some thread) × (grant_of s t o (Some k) ≡ Grant k.number (thread_of s.table t thread.number) (class_number k.rank) ∷ [])
given_grant s t None k some class = cc
given_grant s t (Some thread) k some class = (thread, refl, rw class refl)

-- an act of a task that may take an open core
pub act_grants : (s : Setting) (acts : List Action) (t : ℕ) (k : Candidate CoreClass) → may_act s acts t ≡ true → waits s (so_far s acts) t ≡ true →
    open_choice s (so_far s acts) t ≡ Some k → is_idle k.rank ≡ true →
    (thread : Candidate ℕ) × (thread_choice s (so_far s acts) t ≡ Some thread)
    × (act_of s acts t ≡ Grant k.number (thread_of s.table t thread.number) (class_number k.rank) ∷ [])
act_grants s acts t k may w e class =
    let given = given_grant s t (thread_choice s (so_far s acts) t) k (waits_thread s (so_far s acts) t w) class in
    let choice : choice_for s acts t ≡ Some k = ap (λ o. option_or o (cond (may_preempt s acts t) (held_choice s acts t) None)) e in
    (given.0, given.1, act_is s acts t may w ∙ ap (grant_of s t (thread_choice s (so_far s acts) t)) choice ∙ given.2)
